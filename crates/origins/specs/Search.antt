-- What is sought in a history of events: the last that wrote a place, and the last at which the tag there went.
use Rattle.std.specs.Prelude.{◌≡◌, ℕ, suc, Bool, not, ◌&&◌, ◌||◌, if◌then◌else◌, List, [], ◌∷◌, ◌++◌, length, Option, Some, None}
use Rattle.cap_bounds.specs.CapValue.{is_tagged}
use Rattle.origins.specs.declared.place.Place.{Place}
use Rattle.steps.specs.Event.{after}
use Rattle.steps.specs.State.{State}
use Rattle.steps.specs.declared.event.Event.{Event}
use Rattle.machine.specs.Run.{run_after}
use Rattle.origins.specs.Made.{made_at}
use Rattle.origins.specs.Making.{source}
use Rattle.origins.specs.Places.{held}
use Rattle.origins.specs.declared.making.Making.{Making}
use Rattle.origins.specs.declared.search.Found.{Found}
use Rattle.origins.specs.declared.search.Sought.{Sought}
use Rattle.origins.specs.declared.search.Sought.TheVariants.{Written, Lost}

-- whether what a place holds, if there is one, is tagged
abbrev pub is_tagged_at : Option Place → State → Bool
is_tagged_at (Some place) s = is_tagged (held place s)
is_tagged_at None s = Bool.false

-- The tag at a place goes: what is written there has none, and what was there before, or its source, had one.
abbrev pub loses : Place → Making → Event → State → Bool
loses place making event s =
    not (is_tagged (held place (after event s))) && (is_tagged (held place s) || is_tagged_at (source making) s)

abbrev pub lost_at : Place → Option Making → Event → State → Option Making
lost_at place (Some making) event s = if loses place making event s then Some making else None
lost_at place None event s = None

-- how an event does what is sought, if it does
abbrev pub done_at : Sought → Place → Event → State → Option Making
done_at Written place event s = made_at place event s
done_at Lost place event s = lost_at place (made_at place event s) event s

-- ---- the last

abbrev pub newer : ℕ → Option Making → Option Found → Option Found
newer before (Some making) found = Some (record { before = before; making = making })
newer before None found = found

-- The last event that does what is sought: how many events were before it, and how it made the value. `before` events were met already,
-- of which `found` is the last that did.
abbrev pub last_after : Sought → Place → ℕ → Option Found → List Event → State → Option Found
last_after sought place before found [] s = found
last_after sought place before found (e ∷ es) s =
    last_after sought place (suc before) (newer before (done_at sought place e s) found) es (after e s)

unfoldable pub last : Sought → Place → List Event → State → Option Found
last sought place events s = last_after sought place 0 None events s

-- ---- what it is

-- no event of a list does it
abbrev pub NoneDoes : Sought → Place → List Event → State → Type 0
NoneDoes sought place [] s = Unit {0}
NoneDoes sought place (e ∷ es) s = (done_at sought place e s ≡ None) × NoneDoes sought place es (after e s)

-- The event that was found is among the events, does what is sought, and none after it does.
pub record IsLast (sought : Sought) (place : Place) (events : List Event) (s : State) (found : Found) : Type 0 where
  pub earlier : List Event
  pub event : Event
  pub later : List Event
  pub events_are : events ≡ earlier ++ event ∷ later
  pub count : length earlier ≡ found.before
  pub does : done_at sought place event (run_after earlier s) ≡ Some found.making
  pub none_later : NoneDoes sought place later (after event (run_after earlier s))
