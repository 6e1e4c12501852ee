-- Beyond a set that bounds a state nothing that is lent is kept, at an event and over several.
use Rattle.std.proofs.Common.{◌≡◌, ℕ, true, List, [], ◌∷◌, ◌⊎◌, inl, inr}
use Rattle.cap_bounds.specs.CapValue.{CapValue}
use Rattle.cap_rights.specs.declared.permission.Permission.TheVariants.{Global}
use Rattle.cap_rights.specs.Permission.{permits}
use Rattle.cap_rights.specs.RightsLaws.{permits-in_rights, IsInRightsOf-trans, OpensCapabilityStore-outer, OpensKeeping-outer}
use Rattle.tagged_memory.specs.Memory.{Memory}
use Rattle.steps.specs.declared.event.Event.{Event}
use Rattle.steps.specs.Event.{after}
use Rattle.steps.specs.EventLaws.{IsState-after}
use Rattle.steps.specs.IsEvent.{IsEvent}
use Rattle.steps.specs.IsState.{IsState}
use Rattle.steps.specs.State.{State}
use Rattle.authority.specs.Lent.{IsGivenBy, IsKeptBy, before, given, lent, KeepsNothingLentBeyond, NoneKeepsAt}
use Rattle.authority.specs.LentLaws.{event-kept}
use Rattle.authority.specs.Reachable.{IsReachable, IsHeldAt}
use Rattle.machine.specs.Run.{run_after}
use Rattle.machine.specs.Stretch.{AreEvents, ArePlain, IsPlainRun}
use Rattle.doors.specs.Closed.{Bounds, HasDoors}
use Rattle.doors.specs.Doors.{IsReachableThroughDoors}
use Rattle.doors.specs.DoorsLaws.{doors-have, doors-bound}
use Rattle.doors.specs.SetLaws.{Bounds-closed, bounded}
use Rattle.doors.specs.Sets.{IsCoveredBy}
use Rattle.doors.specs.Turn.{ArePlainOrJumps, IsTurn}
use Rattle.doors.proofs.Turns.{Bounds-plain, Bounds-after}
use Rattle.doors.proofs.Words.{reachable-closed}

module _ (P : CapValue → Type 0) where
  -- ---- values

  pub covered-given : (v : CapValue) → permits v Global ≡ true → IsCoveredBy P v → IsGivenBy P v
  covered-given v global covered = record {
    source = covered.source;
    member = covered.member;
    global = permits-in_rights v covered.source Global covered.within global;
    within = covered.within;
  }

  -- what is kept over what is reachable is kept over a set that bounds it
  kept-bounded : (m : Memory) (t : State) → Bounds P t → KeepsNothingLentBeyond P m t.memory → (granule : ℕ) (v : CapValue)
      → IsKeptBy (IsReachable t) t.memory granule v → IsKeptBy P m granule v
  kept-bounded m t bounds keeps granule v (before here) = keeps granule v here
  kept-bounded m t bounds keeps granule v (given global by c reachable opens) =
      let source = (bounded P t bounds by.source by.member).covered in
      let place = (bounded P t bounds c reachable).covered in
      given global (record {
        source = source.source;
        member = source.member;
        global = permits-in_rights by.source source.source Global source.within by.global;
        within = IsInRightsOf-trans v by.source source.source by.within source.within;
      }) place.source place.member (OpensCapabilityStore-outer c place.source granule place.within opens)
  kept-bounded m t bounds keeps granule v (lent local c reachable opens) =
      let place = (bounded P t bounds c reachable).covered in
      lent local place.source place.member (OpensKeeping-outer c place.source granule place.within opens)

  pub kept-none : (m : Memory) → KeepsNothingLentBeyond P m m
  kept-none m = λ granule v here. before here

  pub kept-after : (m : Memory) (t : State) (e : Event) → IsState t → Bounds P t → KeepsNothingLentBeyond P m t.memory
      → KeepsNothingLentBeyond P m (after e t).memory
  kept-after m t e is bounds keeps = λ granule v here. kept-bounded m t bounds keeps granule v (event-kept t is e granule v here)

  -- ---- several events

  -- up to a state that was reached
  pub record KeepsSo (m : Memory) (later : State) : Type 0 where
    pub state : IsState later
    pub bounds : Bounds P later
    pub kept : KeepsNothingLentBeyond P m later.memory

  starts-so : (s : State) → IsState s → Bounds P s → KeepsSo s.memory s
  starts-so s is bounds = record { state = is; bounds = bounds; kept = kept-none s.memory }

  goes_on-so : (m : Memory) (t : State) (e : Event) → KeepsSo m t → IsEvent e → Bounds P (after e t) → KeepsSo m (after e t)
  goes_on-so m t e keeps is_event bounds = record {
    state = IsState-after t keeps.state e is_event;
    bounds = bounds;
    kept = kept-after m t e keeps.state keeps.bounds keeps.kept;
  }

  plain-on : (m : Memory) (events : List Event) (t : State) → KeepsSo m t → AreEvents events → ArePlain events t
      → KeepsSo m (run_after events t)
  plain-on m [] t keeps are plain = keeps
  plain-on m (e ∷ es) t keeps are plain =
      plain-on m es (after e t) (goes_on-so m t e keeps are.0 (Bounds-plain P t e keeps.state keeps.bounds plain.0)) are.1 plain.1

  turn-on : HasDoors P → (m : Memory) (events : List Event) (t : State) → KeepsSo m t → AreEvents events → ArePlainOrJumps events t
      → KeepsSo m (run_after events t)
  turn-on doors m [] t keeps are all = keeps
  turn-on doors m (e ∷ es) t keeps are all =
      turn-on doors m es (after e t) (goes_on-so m t e keeps are.0 (Bounds-after P doors t e keeps.state keeps.bounds all.0)) are.1 all.1

  pub plain-keeps_so : (events : List Event) (s : State) → Bounds P s → IsPlainRun events s → KeepsSo s.memory (run_after events s)
  plain-keeps_so events s bounds run =
      plain-on s.memory events s (starts-so s run.state bounds) run.are_events run.are_plain

  pub turn-keeps_so : (events : List Event) (s : State) → HasDoors P → Bounds P s → IsTurn events s
      → KeepsSo s.memory (run_after events s)
  turn-keeps_so events s doors bounds turn =
      turn-on doors s.memory events s (starts-so s turn.state bounds) turn.are_events turn.are_plain_or_jumps

  -- and after one more event, whatever it comes to
  pub ending : (m : Memory) (t : State) (e : Event) → KeepsSo m t → KeepsNothingLentBeyond P m (after e t).memory
  ending m t e keeps = kept-after m t e keeps.state keeps.bounds keeps.kept

  -- ---- where none keeps

  pub kept-unless : (m : Memory) (granule : ℕ) (v : CapValue) → NoneKeepsAt P granule → IsKeptBy P m granule v
      → IsHeldAt m granule v ⊎ ((permits v Global ≡ true) × IsGivenBy P v)
  kept-unless m granule v none (before here) = inl here
  kept-unless m granule v none (given global by c member opens) = inr (global, by)
  kept-unless m granule v none (lent local c member opens) = absurd (none c member opens)

-- ---- over what is reachable at the start

pub plain-keeps_reachable : (events : List Event) (s : State) → IsPlainRun events s
    → KeepsSo (IsReachable s) s.memory (run_after events s)
plain-keeps_reachable events s run = plain-keeps_so (IsReachable s) events s (Bounds-closed (IsReachable s) s (reachable-closed s)) run

pub turn-keeps_doors : (events : List Event) (s : State) → IsTurn events s
    → KeepsSo (IsReachableThroughDoors s) s.memory (run_after events s)
turn-keeps_doors events s turn = turn-keeps_so (IsReachableThroughDoors s) events s (doors-have s) (doors-bound s) turn
