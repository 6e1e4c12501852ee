-- The events of a command, one after the other.
use Rattle.std.specs.Prelude.{◌≡◌, ℕ, zero, suc, ◌-◌, nat_le, if◌then◌else◌, List, [], ◌∷◌, length}
use Rattle.steps.specs.State.{State}
use Rattle.steps.specs.declared.event.Event.{Event}
use Rattle.steps.specs.declared.event.Event.TheVariants as event
use Rattle.past.specs.Given.{count_of_one}
use Rattle.past.specs.Position.{Position, next_event, next_position}
use Rattle.past.specs.declared.given.Given.{Given}
use Rattle.past.specs.declared.given.Given.TheVariants.{Steps, Ticks, Byte}

-- the next of them, and where the session's steps stand after it
abbrev pub next_of : Given → Position → Event
next_of (Steps n) p = next_event p
next_of (Ticks n) p = event.Tick
next_of (Byte b) p = event.Byte b

abbrev pub place_of : Given → Position → Position
place_of (Steps n) p = next_position p
place_of other p = p

-- so many of them
abbrev pub some_of : ℕ → Given → Position → List Event
some_of zero g p = []
some_of (suc n) g p = next_of g p ∷ some_of n g (place_of g p)

abbrev pub place_after : ℕ → Given → Position → Position
place_after zero g p = p
place_after (suc n) g p = place_after n g (place_of g p)

-- what is left of a command after its first events, and of commands
abbrev pub rest_of : ℕ → Given → Given
rest_of n (Steps m) = Steps (m - n)
rest_of n (Ticks m) = Ticks (m - n)
rest_of n (Byte b) = Byte b

abbrev pub after_first : ℕ → List Given → List Given
after_first n [] = []
after_first n (g ∷ gs) = if nat_le (count_of_one g) n then after_first (n - count_of_one g) gs else rest_of n g ∷ gs

-- RAM is as large in one state as in another, so that the places of each are there in the other
abbrev pub HasSameSize : State → State → Type 0
HasSameSize s later = length later.memory.bytes ≡ length s.memory.bytes
