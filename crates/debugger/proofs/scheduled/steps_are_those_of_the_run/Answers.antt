use Rattle.std.proofs.Common.{ℕ, List, refl}
use Rattle.std.specs.Prelude.{Some}
use Rattle.hart.specs.Opening.{opening}
use Rattle.image.specs.Image.{Image}
use Rattle.schedules.specs.declared.schedule.Schedule.{Schedule}
use Rattle.symbols.specs.Symbols.{Symbol}
use Rattle.debugger.specs.OnSchedule.{IsOnSchedule}
use Rattle.debugger.specs.SessionState.{session_of_image}
use Rattle.past.specs.Replay.{replay_from}
use Rattle.debugger.proofs.ReplayRuns.{from-start, is-the-run, one-more}
use Rattle.debugger.proofs.scheduled.steps_are_those_of_the_run.Goals as goal

-- no step was given yet
begins : (image : Image) (symbols : List Symbol) (schedule : Schedule) (input : List ℕ)
    → IsOnSchedule (opening image) schedule input 0 (session_of_image image symbols (Some schedule) input)
begins image symbols schedule input = record {
  replay = replay_from schedule input;
  is = refl;
  schedule_is = refl;
  input_is = refl;
  done_is = refl;
  whole = refl;
  machine = refl;
}

pub returns-clause-begins : goal.returns-clause-begins
returns-clause-begins c = begins

pub returns-clause-one : goal.returns-clause-one
returns-clause-one c = λ start schedule input done events s running scheduled on.
    one-more start schedule input running done events s scheduled on

pub returns-clause-all : goal.returns-clause-all
returns-clause-all c = λ image symbols schedule input commands scheduled.
    from-start (opening image) schedule input refl commands (session_of_image image symbols (Some schedule) input) scheduled
    (begins image symbols schedule input)

pub returns-clause-run : goal.returns-clause-run
returns-clause-run c = λ start schedule input done s on none. is-the-run start schedule input done s on none
