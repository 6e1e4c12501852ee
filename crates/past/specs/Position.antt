-- The events of a session's steps, one after the other: a step with the byte before it and the tick after it where the session has a
-- schedule, else steps alone.
use Rattle.std.specs.Prelude.{ℕ, zero, suc, ◌+◌, Bool, true, false, if◌then◌else◌, List, [], ◌∷◌, Option, Some, None, option_map}
use Rattle.std.specs.Prelude.{◌<◌, ◌^◌, IfSome}
use Rattle.steps.specs.declared.event.Event.{Event}
use Rattle.steps.specs.declared.event.Event.TheVariants.{Step, Tick, Byte}
use Rattle.past.specs.Replay.{ReplayState, byte_due, is_tick_due, replay_from, step_done}

-- Where they stand: in a schedule, if there is one, and whether the tick after the last step is to come yet.
pub record Position : Type 0 where
  pub replay : Option ReplayState
  pub owed : Bool

abbrev pub at : Option ReplayState → Bool → Position
at replay owed = record { replay = replay; owed = owed }

-- with so many of its steps given, and the byte before the next of them or not
abbrev pub standing_at : ℕ → Bool → ReplayState → ReplayState
standing_at done brought r = record r { done = done; brought = brought }

-- before the first event
abbrev pub rewound : ReplayState → ReplayState
rewound r = replay_from r.schedule r.input

abbrev pub beginning : Option ReplayState → Position
beginning replay = at (option_map rewound replay) false

-- the next event
abbrev pub byte_or_step : Option ℕ → Event
byte_or_step (Some b) = Byte b
byte_or_step None = Step

abbrev pub next_event : Position → Event
next_event p = if p.owed then Tick else byte_or_step (byte_due p.replay)

-- after it
abbrev pub brought : ReplayState → ReplayState
brought r = record r { brought = true }

abbrev pub after_byte_or_step : Option ℕ → Option ReplayState → Position
after_byte_or_step (Some b) replay = at (option_map brought replay) false
after_byte_or_step None replay = at (option_map step_done replay) (is_tick_due replay)

abbrev pub next_position : Position → Position
next_position p = if p.owed then at p.replay false else after_byte_or_step (byte_due p.replay) p.replay

-- so many events, and where they lead
abbrev pub events_from : ℕ → Position → List Event
events_from zero p = []
events_from (suc n) p = next_event p ∷ events_from n (next_position p)

abbrev pub position_after : ℕ → Position → Position
position_after zero p = p
position_after (suc n) p = position_after n (next_position p)

-- so many events more are given, and the steps among them still counted below 2^64
abbrev pub MayGive : ℕ → Position → Type 0
MayGive n p = IfSome p.replay (λ r. r.done + n < 2 ^ 64)
