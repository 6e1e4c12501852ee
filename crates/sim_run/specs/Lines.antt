-- What a watch wrote of the lines of a trace. No definition of a run needs this.
use Rattle.std.specs.Prelude.{◌≡◌, ℕ, ◌+◌, ◌-◌, nat_lt, if◌then◌else◌, List, [], ◌∷◌, ◌++◌, Option, Result, Ok, Err}
use Rattle.std.specs.Io.KnownBytes.{Appends}
use Rattle.image.specs.Devices.{AppendsBeginning}
use Rattle.steps.specs.declared.event.Event.{Event}
use Rattle.steps.specs.declared.event.Event.TheVariants.{Step}
use Rattle.steps.specs.State.{State}
use Rattle.schedules.specs.Schedule.{steps_in}
use Rattle.schedules.specs.declared.pace.Pace.{Pace}
use Rattle.schedules.specs.declared.pace.Speed.TheVariants.{Any, Each}
use Rattle.sim_run.specs.Trace.{Says, lines_past}
use Rattle.sim_run.specs.declared.traced.LineFault.{LineFault}
use Rattle.sim_run.specs.declared.traced.LineFault.TheVariants.{Device, Memory}

-- after so many steps, at once over those of which no line is kept, and then step by step
abbrev pub lines_pace : ℕ → ℕ → Pace
lines_pace skipped number =
    if nat_lt number skipped then record { speed = Any; most = skipped - number } else record { speed = Each; most = 18446744073709551615 }

-- the lines of the steps among the events were written, but for those of the first so many steps of the run
pub record WroteLines (says : Says) (skipped before : ℕ) (events : List Event) (s : State) (held_old held_new : Option (List ℕ))
    (failed_old failed_new now : ℕ)
    : Type 0 where
  pub lines : Appends held_old held_new (lines_past says (skipped - before) before events s)
  pub failed : failed_new ≡ failed_old
  pub count : now ≡ before + steps_in events

-- how many calls failed: none where there was no memory for a line
abbrev pub calls_failed : LineFault → ℕ
calls_failed Device = 1
calls_failed Memory = 0

-- so it is said of a call that wrote a line
abbrev pub CountsLine : {T : Type 0} → ℕ → ℕ → Result T LineFault → Type 0
CountsLine old new (Ok x) = new ≡ old
CountsLine old new (Err fault) = new ≡ old + calls_failed fault

-- of these lines and that of the step after them a beginning was written, for this reason
pub record MissedLine (fault : LineFault) (says : Says) (skipped before : ℕ) (events : List Event) (s : State)
    (held_old held_new : Option (List ℕ))
    (failed_old failed_new : ℕ)
    : Type 0 where
  pub lines : AppendsBeginning held_old held_new (lines_past says (skipped - before) before (events ++ Step ∷ []) s)
  pub failed : failed_new ≡ failed_old + calls_failed fault
