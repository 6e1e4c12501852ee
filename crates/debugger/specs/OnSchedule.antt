-- A session on a schedule stands where the run on that schedule stands.
use Rattle.std.specs.Prelude.{◌≡◌, ℕ, ◌+◌, Bool, true, false, if◌then◌else◌, List, [], ◌∷◌, ◌++◌, map, Some, option_to_list}
use Rattle.steps.specs.declared.event.Event.{Event}
use Rattle.steps.specs.declared.event.Event.TheVariants as event
use Rattle.steps.specs.State.{State}
use Rattle.machine.specs.Run.{run_after}
use Rattle.schedules.specs.declared.schedule.Schedule.{Schedule}
use Rattle.schedules.specs.Schedule.{byte_before, first_steps, steps_in, up_to_halt}
use Rattle.debug_commands.specs.declared.command.Command.TheVariants.{Gives}
use Rattle.debug_commands.specs.declared.command.Events.{Events}
use Rattle.debug_commands.specs.declared.command.Events.TheVariants.{Steps, Until, Go}
use Rattle.debugger.specs.SessionState.{SessionState}
use Rattle.past.specs.Replay.{ReplayState}
use Rattle.debugger.specs.Reply.{given_in, session_after}

-- the events of a schedule's steps that were given, and the byte before the next step, if it was given
abbrev pub events_so_far : ReplayState → List Event
events_so_far r =
    first_steps r.schedule r.input r.done
    ++ (if r.brought then map event.Byte (option_to_list (byte_before r.schedule r.input (r.done + 1))) else [])

-- So many steps of the schedule were given, and the machine is where they and the events around them, up to the halt, lead from a state.
pub record IsOnSchedule (start : State) (schedule : Schedule) (input : List ℕ) (done : ℕ) (s : SessionState) : Type 0 where
  pub replay : ReplayState
  pub is : s.replay ≡ Some replay
  pub schedule_is : replay.schedule ≡ schedule
  pub input_is : replay.input ≡ input
  pub done_is : replay.done ≡ done
  -- no tick is to come yet
  pub whole : s.owed ≡ false
  pub machine : s.machine ≡ run_after (up_to_halt (events_so_far replay) start) start

-- the commands that give whole steps: each with the byte before it and the tick after it
abbrev pub are_whole_steps : Events → Bool
are_whole_steps (Steps n) = true
are_whole_steps (Until stop n) = true
are_whole_steps (Go n) = true
are_whole_steps other = false

-- commands that give events, one after the other, and how many steps they give
abbrev pub session_after_all : List Events → SessionState → SessionState
session_after_all [] s = s
session_after_all (events ∷ rest) s = session_after_all rest (session_after (Gives events) s)

abbrev pub steps_of_all : List Events → SessionState → ℕ
steps_of_all [] s = 0
steps_of_all (events ∷ rest) s = steps_in (given_in events s) + steps_of_all rest (session_after (Gives events) s)
