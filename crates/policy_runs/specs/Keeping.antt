-- Runs whose steps keep to rules.
use Rattle.std.specs.Prelude.{◌≡◌, ◌⊎◌, ℕ, List, [], ◌∷◌, Some}
use Rattle.steps.specs.declared.event.Event.{Event}
use Rattle.steps.specs.declared.event.Event.TheVariants.{Step, Tick, Byte}
use Rattle.steps.specs.Event.{after}
use Rattle.steps.specs.State.{State}
use Rattle.machine.specs.Run.{run_after}
use Rattle.schedules.specs.declared.schedule.Schedule.{Schedule}
use Rattle.schedules.specs.Schedule.{IsPlaceOf, events_before}
use Rattle.policy.specs.Terms.{Terms}
use Rattle.policy.specs.Watch.{KeepsToEach}
use Rattle.policy.specs.Lending.{in_force_after}

-- each step among the events keeps to each rule that applies before it, by the terms in force; a byte that comes and a tick are no steps
abbrev pub StepsKeepFrom : List Terms → List Terms → List Event → State → Type 0
StepsKeepFrom said now [] s = Unit {0}
StepsKeepFrom said now (Step ∷ es) s = KeepsToEach now Step s × StepsKeepFrom said (in_force_after said now Step s) es (after Step s)
StepsKeepFrom said now (Tick ∷ es) s = StepsKeepFrom said now es (after Tick s)
StepsKeepFrom said now (Byte b ∷ es) s = StepsKeepFrom said now es (after (Byte b) s)

-- of a run from its begin, where nobody has called any code
abbrev pub StepsKeepToEach : List Terms → List Event → State → Type 0
StepsKeepToEach said events s = StepsKeepFrom said said events s

-- A search that runs out of memory leaves the machine where it stood, or before a step of its run; each step before that kept to each
-- rule that applies.
abbrev pub LeavesMidway : List Terms → Schedule → List ℕ → State → State → Type 0
LeavesMidway rules schedule input s later =
    (later ≡ s)
    ⊎ ((number : ℕ) × IsPlaceOf schedule number × (later ≡ run_after (events_before (Some number) schedule input s) s)
    × StepsKeepToEach rules (events_before (Some number) schedule input s) s)
