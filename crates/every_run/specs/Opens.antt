-- What is promised of every run: the states in which an image may be opened, where the code in some ranges may be any, and that each run
-- from one of them keeps to the rules.
use Rattle.std.specs.Prelude.{◌≡◌, Bool, true, false, List, length}
use Rattle.image.specs.Image.{Image}
use Rattle.hart.specs.Opening.{opening}
use Rattle.steps.specs.declared.event.Event.{Event}
use Rattle.steps.specs.IsState.{IsState}
use Rattle.steps.specs.State.{State}
use Rattle.machine.specs.Stretch.{AreEvents}
use Rattle.reach.specs.declared.range.Range.{Range}
use Rattle.policy.specs.Run.{KeepToEach}
use Rattle.policy.specs.Terms.{Terms}
use Rattle.every_run.specs.declared.verdict.Verdict.{Verdict}
use Rattle.every_run.specs.declared.verdict.Verdict.TheVariants.{Holds, Unshown}
use Rattle.every_run.specs.Known.{IsOutside}
use Rattle.every_run.specs.Stands.{IsSameWhere}

-- A state that is another but for bytes of RAM in the ranges.
pub record StartsWithAnyCode (any : List Range) (a s : State) : Type 0 where
  pub state : IsState s
  pub registers : s.registers ≡ a.registers
  pub scrs : s.scrs ≡ a.scrs
  pub csrs : s.csrs ≡ a.csrs
  pub devices : s.devices ≡ a.devices
  pub memory : IsSameWhere (IsOutside any) a.memory s.memory

-- a state in which an image may be opened: its opening state but for bytes of RAM in the ranges
abbrev pub OpensWithAnyCode : Image → List Range → State → Type 0
OpensWithAnyCode i any s = StartsWithAnyCode any (opening i) s

-- each run from a state, over any steps, ticks and bytes and with any code in the ranges, keeps to the rules at each event
abbrev pub EveryRunKeepsTo : List Terms → List Range → State → Type 0
EveryRunKeepsTo rules any a =
    (s : State) (events : List Event) → StartsWithAnyCode any a s → AreEvents events → KeepToEach rules events (length events) s

-- the verdict is that it holds
abbrev pub holds : Verdict → Bool
holds (Holds steps members) = true
holds (Unshown why) = false

abbrev pub IsHolds : Verdict → Type 0
IsHolds (Holds steps members) = Unit {0}
IsHolds (Unshown why) = ⊥
