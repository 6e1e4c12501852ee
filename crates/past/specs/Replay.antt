-- Where a schedule stands that a session's steps follow.
use Rattle.std.specs.Prelude.{ℕ, ◌+◌, nat_le, Bool, true, false, if◌then◌else◌, List, [], ◌∷◌, map, Option, Some, None, option_to_list}
use Rattle.steps.specs.declared.event.Event.{Event}
use Rattle.steps.specs.declared.event.Event.TheVariants.{Step, Tick, Byte}
use Rattle.schedules.specs.Schedule.{byte_before, is_tick_after}
use Rattle.schedules.specs.declared.schedule.Schedule.{Schedule}

-- A schedule and the bytes of its input; how many of its steps were given, and whether the byte before the next of them was.
pub record ReplayState : Type 0 where
  pub schedule : Schedule
  pub input : List ℕ
  pub done : ℕ
  pub brought : Bool

-- none of its steps was given
abbrev pub replay_from : Schedule → List ℕ → ReplayState
replay_from schedule input = record { schedule = schedule; input = input; done = 0; brought = false }

-- whether all of its steps were given
abbrev pub is_over : Option ReplayState → Bool
is_over None = false
is_over (Some r) = nat_le r.schedule.steps r.done

-- the byte before the next step, unless it was given
abbrev pub byte_due : Option ReplayState → Option ℕ
byte_due None = None
byte_due (Some r) = if r.brought then None else byte_before r.schedule r.input (r.done + 1)

abbrev pub byte_events : Option ReplayState → List Event
byte_events replay = map Byte (option_to_list (byte_due replay))

-- whether a tick comes after the next step
abbrev pub is_tick_due : Option ReplayState → Bool
is_tick_due None = false
is_tick_due (Some r) = is_tick_after r.schedule (r.done + 1)

-- one step more was given
abbrev pub step_done : ReplayState → ReplayState
step_done r = record r { done = r.done + 1; brought = false }

-- where a schedule stands after events of its own
abbrev pub replayed : List Event → ReplayState → ReplayState
replayed [] r = r
replayed (Step ∷ es) r = replayed es (step_done r)
replayed (Tick ∷ es) r = replayed es r
replayed (Byte b ∷ es) r = replayed es (record r { brought = true })
