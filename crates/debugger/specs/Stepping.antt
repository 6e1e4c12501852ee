-- The steps of a command, with the byte before each and the tick after it where a session has a schedule.
use Rattle.std.specs.Prelude.{ℕ, zero, suc, ◌-◌, ◌==◌, nat_lt, min, Bool, true, false, not, ◌&&◌, ◌||◌, if◌then◌else◌, List, [], ◌∷◌, ◌++◌}
use Rattle.std.specs.Prelude.{length, replicate, Option, Some, None, option_to_list}
use Rattle.steps.specs.declared.event.Event.{Event}
use Rattle.steps.specs.declared.event.Event.TheVariants.{Step, Tick}
use Rattle.steps.specs.State.{State}
use Rattle.steps.specs.Event.{after, sent}
use Rattle.machine.specs.Run.{run_after}
use Rattle.schedules.specs.Schedule.{is_halted}
use Rattle.origins.specs.declared.place.Place.{Place}
use Rattle.cap_bounds.specs.CapValue.{CapValue}
use Rattle.cap_rights.specs.Derivations.{equal_exact}
use Rattle.origins.specs.Places.{held}
use Rattle.past.specs.Position.{Position, next_event, next_position}
use Rattle.past.specs.Replay.{ReplayState, byte_events, is_over, is_tick_due, step_done}
use Rattle.debugger.specs.Stops.{Ends, is_end, nowhere}

-- ---- the schedule

-- the next step, and the tick after it; after the halt nothing comes
abbrev pub step_events : Option ReplayState → State → List Event
step_events replay s = Step ∷ (if is_tick_due replay && not (is_halted (after Step s)) then Tick ∷ [] else [])

abbrev pub next_step : Option ReplayState → Option ReplayState
next_step None = None
next_step (Some r) = Some (step_done r)

-- ---- steps

-- nothing is given: of a schedule that is over, where as many bytes were sent as may be, and on a halted machine
abbrev pub is_at_end : Option ReplayState → ℕ → State → Bool
is_at_end replay room s = is_over replay || ((room == 0) || is_halted s)

-- the state after the byte before the next step
abbrev pub ready : Option ReplayState → State → State
ready replay s = run_after (byte_events replay) s

-- Steps: so many at most, and none after they sent so many bytes. Where they end is looked for after the byte that comes before a step:
-- before the first step it is one place, before each later one another.
abbrev pub steps_while : Ends → Ends → Option ReplayState → ℕ → ℕ → State → List Event
steps_while first later replay zero room s = []
steps_while first later replay (suc n) room s =
    if is_at_end replay room s then []
    else (byte_events replay
    ++ (if is_end first (ready replay s) then []
    else (step_events replay (ready replay s)
    ++ steps_while later later (next_step replay) n (room - length (option_to_list (sent Step (ready replay s))))
    (run_after (step_events replay (ready replay s)) (ready replay s)))))

-- `step`: without a schedule steps of a halted machine too, which change nothing
abbrev pub counted_steps : Option ReplayState → ℕ → State → List Event
counted_steps None n s = replicate n Step
counted_steps (Some r) n s = steps_while nowhere nowhere (Some r) n n s

-- ---- changes

-- nothing is given any more
abbrev pub is_done : Position → State → Bool
is_done p s = is_halted s || (is_over p.replay && not p.owed)

abbrev pub holds : Place → CapValue → State → Bool
holds place v s = equal_exact v (held place s)

-- whether one more is given
abbrev pub holds_on : Place → CapValue → ℕ → Position → State → Bool
holds_on place v n p s = nat_lt 0 n && (not (is_done p s) && holds place v s)

-- Events of a session's steps, so many at most, while a place holds a value.
abbrev pub steps_holding : Place → CapValue → ℕ → Position → State → List Event
steps_holding place v zero p s = []
steps_holding place v (suc n) p s =
    if is_done p s || not (holds place v s) then []
    else next_event p ∷ steps_holding place v n (next_position p) (after (next_event p) s)

-- the most bytes that so many steps up to a stop send
unfoldable pub most_sent : ℕ → ℕ
most_sent n = min n 1000000
