-- What the watch of a search for the first breach remembers of the events that it was told of. No definition of a run needs this.
use Rattle.std.specs.Prelude.{◌≡◌, ◌≤◌, Bool, true, false, List, length, None}
use Rattle.steps.specs.declared.event.Event.{Event}
use Rattle.steps.specs.State.{State}
use Rattle.machine.specs.Run.{run_after}
use Rattle.policy.specs.declared.watcher.Watcher.{Watcher}
use Rattle.policy.specs.Known.{Knows, rules_of, said_to}
use Rattle.policy.specs.Watch.{IsRefused}
use Rattle.policy.specs.Lending.{in_force_from}
use Rattle.schedules.specs.declared.pace.Pace.{Pace}
use Rattle.schedules.specs.declared.pace.Speed.TheVariants.{Each, Short}
use Rattle.policy_runs.specs.declared.keeper.Bar.{Bar}
use Rattle.policy_runs.specs.declared.keeper.Bar.TheVariants.{Broken, Memory}
use Rattle.policy_runs.specs.Keeping.{StepsKeepFrom}

-- under a guard steps go at once, as long as they are plain
abbrev pub pace_at : Bool → Pace
pace_at true = record { speed = Short None; most = 18446744073709551615 }
pace_at false = record { speed = Each; most = 18446744073709551615 }

-- each step among the events kept to the rules in force, the other watcher holds those in force after them, and so much is true of it and
-- of the state then
pub record HasKept (Truth : Watcher → State → Type 0) (events : List Event) (s : State) (v w : Watcher) : Type 0 where
  pub keep : StepsKeepFrom (said_to v) (rules_of v) events s
  pub force : rules_of w ≡ in_force_from (said_to v) (rules_of v) events s
  pub truth : Truth w (run_after events s)

-- from one watcher to the other, if the one knew the state before
abbrev pub Kept : (Watcher → State → Type 0) → List Event → State → Watcher → Watcher → Type 0
Kept Truth events s v w = (said_to w ≡ said_to v) × (Knows v s → HasKept Truth events s v w)

-- why the step after the events is not done
abbrev pub IsBarred : Bar → List Event → State → Watcher → Type 0
IsBarred (Broken refused) events s v =
    Knows v s → StepsKeepFrom (said_to v) (rules_of v) events s
    × IsRefused (in_force_from (said_to v) (rules_of v) events s) refused (run_after events s)
IsBarred Memory events s v = (1 ≤ length (said_to v)) × (Knows v s → StepsKeepFrom (said_to v) (rules_of v) events s)
