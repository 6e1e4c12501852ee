-- A step back: where the rules hold for ever after a known step before which none applies, they hold for ever before it.
use Rattle.std.proofs.Common.{◌≡◌, ℕ, None, List, [], ◌∷◌, length, ap, ◌∙◌, subst}
use Rattle.cap_bounds.specs.CapValue.{value_address}
use Rattle.reach.specs.declared.range.Range.{Range}
use Rattle.steps.specs.declared.event.Event.{Event}
use Rattle.steps.specs.declared.event.Event.TheVariants.{Step, Tick, Byte}
use Rattle.steps.specs.Event.{after}
use Rattle.steps.specs.EventLaws.{IsState-after}
use Rattle.steps.specs.IsState.{IsState}
use Rattle.steps.specs.State.{State, pc_of}
use Rattle.steps.specs.Step.{fetch}
use Rattle.machine.specs.Stretch.{AreEvents}
use Rattle.policy.specs.Run.{KeepToEach}
use Rattle.policy.specs.Terms.{Terms}
use Rattle.policy.specs.Watch.{Applies, fetched_at, fetched_from}
use Rattle.always.specs.Kept.{LendsNothing}
use Rattle.always.proofs.Runs.{keep-always}
use Rattle.every_run.specs.Known.{IsOutside}
use Rattle.every_run.specs.Lasting.{AlwaysHold, AlwaysHoldFrom, NoneApplies}
use Rattle.every_run.specs.Opens.{StartsWithAnyCode, EveryRunKeepsTo}
use Rattle.every_run.specs.Stands.{StandsFor, IsKnownStep}
use Rattle.every_run.proofs.Covers.{stands-step, stands-tick, stands-byte, same-fetch}

module _ (Known : ℕ → Type 0) (rules : List Terms) (a : State) (is : IsState a) (step : IsKnownStep Known a) (none : NoneApplies rules a)
    (next : AlwaysHoldFrom Known rules (after Step a)) where
  fetched-same : (s : State) → StandsFor Known a s → fetched_at s ≡ fetched_at a
  fetched-same s stands =
      ap (λ r. fetched_from r (pc_of s)) (same-fetch Known a s stands step)
      ∙ ap (λ x. fetched_from (fetch a) (value_address x.pcc)) stands.scrs

  pub before-step : AlwaysHoldFrom Known rules a
  before-step s state stands [] are = λ rule there applies. absurd (none rule there (subst (Applies rule) (fetched-same s stands) applies))
  before-step s state stands (Step ∷ es) are =
      next (after Step s) (IsState-after s state Step are.0) (stands-step Known a s stands is step) es are.1
  before-step s state stands (Tick ∷ es) are =
      before-step (after Tick s) (IsState-after s state Tick are.0) (stands-tick Known a s stands) es are.1
  before-step s state stands (Byte b ∷ es) are =
      before-step (after (Byte b) s) (IsState-after s state (Byte b) are.0) (stands-byte Known a s stands b) es are.1

-- rules that hold for ever are kept at each event
always-kept : (rules : List Terms) → LendsNothing rules → (s : State) → IsState s → AlwaysHold rules s → (events : List Event)
    → AreEvents events → KeepToEach rules events (length events) s
always-kept rules lends s is always events are =
    keep-always rules lends (AlwaysHold rules) (λ e t event state there es others. there (e ∷ es) (event, others))
    (λ t state there. there [] tt) events s are is always

-- a state that runs stands for each that is the same but for bytes in the ranges
stood : (any : List Range) (a s : State) → a.devices.halted ≡ None → StartsWithAnyCode any a s → StandsFor (IsOutside any) a s
stood any a s running starts = record {
  registers = starts.registers;
  scrs = starts.scrs;
  csrs = record {
    mstatus_mie = ap (λ c. c.mstatus_mie) starts.csrs;
    mstatus_mpie = ap (λ c. c.mstatus_mpie) starts.csrs;
    mie = ap (λ c. c.mie) starts.csrs;
    kept = ap (λ c. c.kept) starts.csrs;
    mcause = ap (λ c. c.mcause) starts.csrs;
    mtval = ap (λ c. c.mtval) starts.csrs;
  };
  memory = starts.memory;
  running = ap (λ d. d.halted) starts.devices ∙ running;
}

pub every-run : (any : List Range) (rules : List Terms) (a : State) → LendsNothing rules → a.devices.halted ≡ None
    → AlwaysHoldFrom (IsOutside any) rules a → EveryRunKeepsTo rules any a
every-run any rules a lends running hold s events starts are =
    always-kept rules lends s starts.state (hold s starts.state (stood any a s running starts)) events are
