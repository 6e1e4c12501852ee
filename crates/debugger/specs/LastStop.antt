-- The last place before where a session stands at which one of its stops holds.
-- A place is so many of the events that the session was given since the opening state: those before it; the others come after it.
use Rattle.std.specs.Prelude.{ℕ, zero, suc, ◌-◌, Bool, false, not, ◌&&◌, if◌then◌else◌, List, [], ◌∷◌, take, drop, Option, Some, None}
use Rattle.std.specs.Prelude.{option_map}
use Rattle.steps.specs.declared.event.Event.{Event}
use Rattle.steps.specs.declared.event.Event.TheVariants.{Step, Tick, Byte}
use Rattle.steps.specs.State.{State}
use Rattle.hart.specs.Opening.{opening}
use Rattle.machine.specs.Run.{run_after}
use Rattle.schedules.specs.Schedule.{is_halted}
use Rattle.past.specs.Given.{PastState, count_of, past_events}
use Rattle.past.specs.Replay.{ReplayState}
use Rattle.debugger.specs.Stops.{Mark, is_any_stop}

-- A stop holds just before a step of a machine that isn't halted, as where `go` looks for it: so after the byte that comes before the step.
abbrev pub is_stop_before : List Mark → Event → State → Bool
is_stop_before marks Step s = not (is_halted s) && is_any_stop marks s
is_stop_before marks Tick s = false
is_stop_before marks (Byte b) s = false

abbrev pub begin_at_stop : List Mark → List Event → State → Bool
begin_at_stop marks [] s = false
begin_at_stop marks (e ∷ es) s = is_stop_before marks e s

-- whether one holds at a place: the n first events lead there, and the others begin there
abbrev pub is_stop_at : List Mark → List Event → State → ℕ → Bool
is_stop_at marks events s n = begin_at_stop marks (drop n events) (run_after (take n events) s)

-- the last such place of those before n
abbrev pub last_stop : List Mark → List Event → State → ℕ → Option ℕ
last_stop marks events s zero = None
last_stop marks events s (suc n) = if is_stop_at marks events s n then Some n else last_stop marks events s n

-- of a session: of those before all of its events
unfoldable pub stop_before_now : List Mark → Option ReplayState → PastState → Option ℕ
stop_before_now marks replay past = last_stop marks (past_events past replay) (opening past.image) (count_of past.given)

-- how many events were given since then
abbrev pub since_stop : List Mark → Option ReplayState → Option PastState → Option ℕ
since_stop marks replay (Some past) = option_map (λ place. count_of past.given - place) (stop_before_now marks replay past)
since_stop marks replay None = None
