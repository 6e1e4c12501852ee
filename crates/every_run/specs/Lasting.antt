-- Rules that hold for ever.
use Rattle.std.specs.Prelude.{ℕ, List, Contains}
use Rattle.steps.specs.declared.event.Event.{Event}
use Rattle.steps.specs.IsState.{IsState}
use Rattle.steps.specs.State.{State}
use Rattle.machine.specs.Run.{run_after}
use Rattle.machine.specs.Stretch.{AreEvents}
use Rattle.policy.specs.Terms.{Terms}
use Rattle.policy.specs.Watch.{Applies, HoldEach, fetched_at}
use Rattle.every_run.specs.Stands.{StandsFor}

-- in each state of each run from here the rules that apply hold
abbrev pub AlwaysHold : List Terms → State → Type 0
AlwaysHold rules s = (events : List Event) → AreEvents events → HoldEach rules (run_after events s)

-- so they do from each state that a known one stands for
abbrev pub AlwaysHoldFrom : (ℕ → Type 0) → List Terms → State → Type 0
AlwaysHoldFrom Known rules a = (s : State) → IsState s → StandsFor Known a s → AlwaysHold rules s

-- no rule is about the code that can be fetched
abbrev pub NoneApplies : List Terms → State → Type 0
NoneApplies rules s = (rule : Terms) → Contains rules rule → Applies rule (fetched_at s) → ⊥
