-- A turn goes on by one event, and keeps a set's authority: the set bounds what comes, and beyond it all is left alone.
use Rattle.std.proofs.Common.{◌≡◌, ℕ, zero, suc, List, [], ◌∷◌, ◌++◌, take, Option, None, Some, refl, sym}
use Rattle.std.proofs.Common.{ap, ◌∙◌, subst, inl, inr, append_assoc}
use Rattle.std.proofs.lemmas.List.{append-nil}
use Rattle.std.specs.Prelude.{option_to_list}
use Rattle.cap_bounds.specs.CapValue.{CapValue}
use Rattle.devices.specs.Devices.{transmit}
use Rattle.steps.specs.declared.event.Event.{Event}
use Rattle.steps.specs.declared.event.Event.TheVariants.{Step, Tick, Byte}
use Rattle.steps.specs.Event.{after, sent, outcome}
use Rattle.steps.specs.EventLaws.{step_effect-sound, IsState-after}
use Rattle.steps.specs.IsState.{IsState}
use Rattle.steps.specs.Outcome.{Plain, SealedJump, step_outcome_unless, step_outcome}
use Rattle.steps.specs.State.{State}
use Rattle.steps.specs.Step.{step_effect, stepped_unless, stepped}
use Rattle.authority.specs.Authority.{LeavesAlone}
use Rattle.authority.specs.EffectLaws.{effect-framed}
use Rattle.authority.specs.FrameLaws.{framed-by, registers-same, scrs-same, memory-same}
use Rattle.authority.specs.Grounded.{IsFramed}
use Rattle.authority.specs.StepLaws.{step_effect-derives, event-leaves, event-silent}
use Rattle.machine.specs.Run.{run_after, run_sent}
use Rattle.machine.specs.Stretch.{AreEvents}
use Rattle.doors.specs.Sets.{LeavesAloneBeyond, IsSilentBeyond}
use Rattle.doors.specs.Closed.{Bounds, HasDoors}
use Rattle.doors.specs.Doors.{IsReachableThroughDoors}
use Rattle.doors.specs.DoorsLaws.{doors-have, doors-bound}
use Rattle.doors.specs.SetLaws.{Bounds-framed, left-bounded, left-refl, left-trans, writable-bounded}
use Rattle.doors.specs.Turn.{IsPlainOrJump, ArePlainOrJumps, IsTurn}
use Rattle.doors.proofs.Entering.{Bounds-jumped, jump-leaves}
use Rattle.doors.proofs.Jumps.{step_effect-through}

-- ---- plain events

stepped-framed : (s : State) → IsState s → (halted : Option ℕ) → step_outcome_unless halted s ≡ Plain → IsFramed s (stepped_unless halted s)
stepped-framed s is None plain =
    effect-framed (step_effect s) s is.memory (step_effect-sound s is) (step_effect-derives s is) plain
stepped-framed s is (Some number) plain = framed-by s s (registers-same s) (scrs-same s) (memory-same s)

event-framed : (s : State) → IsState s → (e : Event) → outcome e s ≡ Plain → IsFramed s (after e s)
unfolding stepped step_outcome
event-framed s is Step plain = stepped-framed s is s.devices.halted plain
event-framed s is Tick plain = framed-by s (after Tick s) (registers-same s) (scrs-same s) (memory-same s)
event-framed s is (Byte b) plain = framed-by s (after (Byte b) s) (registers-same s) (scrs-same s) (memory-same s)

-- ---- sealed jumps

stepped-jump-leaves : (s : State) → IsState s → (halted : Option ℕ) → step_outcome_unless halted s ≡ SealedJump
    → LeavesAlone s (stepped_unless halted s)
stepped-jump-leaves s is None jump = jump-leaves (step_effect s) s (step_effect-derives s is) jump
stepped-jump-leaves s is (Some number) jump = cc

event-jump-leaves : (s : State) → IsState s → (e : Event) → outcome e s ≡ SealedJump → LeavesAlone s (after e s)
unfolding stepped step_outcome
event-jump-leaves s is Step jump = stepped-jump-leaves s is s.devices.halted jump
event-jump-leaves s is Tick jump = cc
event-jump-leaves s is (Byte b) jump = cc

module _ (P : CapValue → Type 0) where
  pub Bounds-plain : (s : State) (e : Event) → IsState s → Bounds P s → outcome e s ≡ Plain → Bounds P (after e s)
  Bounds-plain s e is bounds plain = Bounds-framed P s bounds (after e s) (event-framed s is e plain)

  module _ (doors : HasDoors P) where
    stepped-jump : (s : State) → IsState s → Bounds P s → (halted : Option ℕ) → step_outcome_unless halted s ≡ SealedJump
        → Bounds P (stepped_unless halted s)
    stepped-jump s is bounds None jump =
        Bounds-jumped P s bounds doors (step_effect s) (step_effect-through s) (step_effect-derives s is) jump
    stepped-jump s is bounds (Some number) jump = cc

    pub Bounds-jump : (s : State) (e : Event) → IsState s → Bounds P s → outcome e s ≡ SealedJump → Bounds P (after e s)
    unfolding stepped step_outcome
    Bounds-jump s Step is bounds jump = stepped-jump s is bounds s.devices.halted jump
    Bounds-jump s Tick is bounds jump = cc
    Bounds-jump s (Byte b) is bounds jump = cc

    pub Bounds-after : (s : State) (e : Event) → IsState s → Bounds P s → IsPlainOrJump e s → Bounds P (after e s)
    Bounds-after s e is bounds (inl plain) = Bounds-plain s e is bounds plain
    Bounds-after s e is bounds (inr jump) = Bounds-jump s e is bounds jump

  left-after : (s : State) (e : Event) → IsState s → IsPlainOrJump e s → LeavesAlone s (after e s)
  left-after s e is (inl plain) = event-leaves s is e plain
  left-after s e is (inr jump) = event-jump-leaves s is e jump

  -- ---- several events

  -- what a turn keeps of a state, up to a later one, with the bytes that were sent
  pub record Keeps (s later : State) (bytes : List ℕ) : Type 0 where
    pub bounds : Bounds P later
    pub left : LeavesAloneBeyond P s later
    pub silent : IsSilentBeyond P bytes

  pub Keeps-none : (s : State) → Bounds P s → Keeps s s []
  Keeps-none s bounds = record { bounds = bounds; left = left-refl P s; silent = λ none. refl }

  silent-after : (s t : State) (bytes : List ℕ) (e : Event) → Keeps s t bytes → IsState t
      → IsSilentBeyond P (bytes ++ option_to_list (sent e t))
  silent-after s t bytes e keeps is = λ none.
      let nothing : sent e t ≡ None = event-silent t is e (λ writable. none (writable-bounded P t keeps.bounds transmit writable)) in
      ap (λ b. b ++ option_to_list (sent e t)) (keeps.silent none) ∙ ap option_to_list nothing

  pub Keeps-after : HasDoors P → (s t : State) (bytes : List ℕ) (e : Event) → Keeps s t bytes → IsState t → IsPlainOrJump e t
      → Keeps s (after e t) (bytes ++ option_to_list (sent e t))
  Keeps-after doors s t bytes e keeps is goes_on = record {
    bounds = Bounds-after doors t e is keeps.bounds goes_on;
    left = left-trans P s t (after e t) keeps.left (left-bounded P t keeps.bounds (after e t) (left-after t e is goes_on));
    silent = silent-after s t bytes e keeps is;
  }

  keeps-on : HasDoors P → (events : List Event) (s t : State) (bytes : List ℕ) → Keeps s t bytes → IsState t → AreEvents events
      → ArePlainOrJumps events t → Keeps s (run_after events t) (bytes ++ run_sent events t)
  keeps-on doors [] s t bytes keeps is are all = subst (Keeps s t) (sym (append-nil bytes)) keeps
  keeps-on doors (e ∷ es) s t bytes keeps is are all =
      subst (Keeps s (run_after es (after e t))) (append_assoc bytes (option_to_list (sent e t)) (run_sent es (after e t)))
      (keeps-on doors es s (after e t) (bytes ++ option_to_list (sent e t)) (Keeps-after doors s t bytes e keeps is all.0)
      (IsState-after t is e are.0) are.1 all.1)

  pub turn-keeps : (events : List Event) (s : State) → HasDoors P → Bounds P s → IsTurn events s
      → Keeps s (run_after events s) (run_sent events s)
  turn-keeps events s doors bounds turn =
      keeps-on doors events s s [] (Keeps-none s bounds) turn.state turn.are_events turn.are_plain_or_jumps

pub turn-keeps-doors : (events : List Event) (s : State) → IsTurn events s
    → Keeps (IsReachableThroughDoors s) s (run_after events s) (run_sent events s)
turn-keeps-doors events s turn = turn-keeps (IsReachableThroughDoors s) events s (doors-have s) (doors-bound s) turn

-- ---- beginnings

events-beginning : (k : ℕ) (events : List Event) → AreEvents events → AreEvents (take k events)
events-beginning zero events are = tt
events-beginning (suc k) [] are = tt
events-beginning (suc k) (e ∷ es) are = (are.0, events-beginning k es are.1)

go_on-beginning : (k : ℕ) (events : List Event) (s : State) → ArePlainOrJumps events s → ArePlainOrJumps (take k events) s
go_on-beginning zero events s all = tt
go_on-beginning (suc k) [] s all = tt
go_on-beginning (suc k) (e ∷ es) s all = (all.0, go_on-beginning k es (after e s) all.1)

pub beginning : (events : List Event) (s : State) (k : ℕ) → IsTurn events s → IsTurn (take k events) s
beginning events s k turn = record {
  state = turn.state;
  are_events = events-beginning k events turn.are_events;
  are_plain_or_jumps = go_on-beginning k events s turn.are_plain_or_jumps;
}
