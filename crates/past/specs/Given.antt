-- What a session was given since the opening state of its image: runs of events, one a command.
use Rattle.std.specs.Prelude.{◌≡◌, ℕ, ◌+◌, ◌-◌, nat_le, if◌then◌else◌, List, [], ◌∷◌, ◌++◌, length, replicate, take, Option}
use Rattle.hart.specs.Opening.{opening}
use Rattle.steps.specs.State.{State}
use Rattle.steps.specs.declared.event.Event.{Event}
use Rattle.steps.specs.declared.event.Event.TheVariants as event
use Rattle.image.specs.Image.{Image}
use Rattle.machine.specs.Run.{run_after}
use Rattle.past.specs.Position.{Position, beginning, events_from, position_after}
use Rattle.past.specs.Replay.{ReplayState}
use Rattle.past.specs.declared.given.Given.{Given}
use Rattle.past.specs.declared.given.Given.TheVariants.{Steps, Ticks, Byte}

-- An image, and what was given since its opening state.
pub record PastState : Type 0 where
  pub image : Image
  pub given : List Given

abbrev pub past_of : Image → List Given → PastState
past_of image given = record { image = image; given = given }

-- the events of one command, and where the session's steps stand after them
abbrev pub events_of_one : Given → Position → List Event
events_of_one (Steps n) p = events_from n p
events_of_one (Ticks n) p = replicate n event.Tick
events_of_one (Byte b) p = event.Byte b ∷ []

abbrev pub position_after_one : Given → Position → Position
position_after_one (Steps n) p = position_after n p
position_after_one other p = p

-- all events, in order
abbrev pub events_of : List Given → Position → List Event
events_of [] p = []
events_of (g ∷ gs) p = events_of_one g p ++ events_of gs (position_after_one g p)

abbrev pub position_of : List Given → Position → Position
position_of [] p = p
position_of (g ∷ gs) p = position_of gs (position_after_one g p)

-- how many they are
abbrev pub count_of_one : Given → ℕ
count_of_one (Steps n) = n
count_of_one (Ticks n) = n
count_of_one (Byte b) = 1

abbrev pub count_of : List Given → ℕ
count_of [] = 0
count_of (g ∷ gs) = count_of_one g + count_of gs

-- the first of them
abbrev pub cut : ℕ → Given → List Given
cut n (Steps m) = Steps n ∷ []
cut n (Ticks m) = Ticks n ∷ []
cut n (Byte b) = []

abbrev pub first_of : ℕ → List Given → List Given
first_of n [] = []
first_of n (g ∷ gs) = if nat_le (count_of_one g) n then g ∷ first_of (n - count_of_one g) gs else cut n g

-- all commands but the last
abbrev pub but_last : List Given → List Given
but_last gs = take (length gs - 1) gs

-- ---- a session's past, whose steps follow a schedule or none

abbrev pub past_events : PastState → Option ReplayState → List Event
past_events past replay = events_of past.given (beginning replay)

-- the state after the first of them, as many as are said, and where the steps stand there
abbrev pub state_at : ℕ → PastState → Option ReplayState → State
state_at n past replay = run_after (take n (past_events past replay)) (opening past.image)

abbrev pub position_at : ℕ → PastState → Option ReplayState → Position
position_at n past replay = position_of (first_of n past.given) (beginning replay)

-- The first events are those of the first commands, the last of them cut.
abbrev pub FirstAreFirst : Type 0
FirstAreFirst = (n : ℕ) (given : List Given) (p : Position) → events_of (first_of n given) p ≡ take n (events_of given p)

-- There are as many events as are counted.
abbrev pub CountsEvents : Type 0
CountsEvents = (given : List Given) (p : Position) → length (events_of given p) ≡ count_of given
