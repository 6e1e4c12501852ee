-- What is found of what is reachable through doors, in order: a search, and then one more with what the doors lead to that it found, until
-- one finds no door that isn't open.
use Rattle.std.specs.Prelude.{ℕ, zero, suc, ◌^◌, Bool, not, ◌&&◌, ◌||◌, ◌==◌, nat_le, nat_lt, if◌then◌else◌, List, [], ◌∷◌, ◌++◌, length}
use Rattle.std.specs.Prelude.{Option, None, Some, is_none, option_map}
use Rattle.std.specs.List.{list_any}
use Rattle.base.specs.ObjectType.{sentry_type}
use Rattle.cap_bounds.specs.CapValue.{CapValue, is_sealed, value_base, value_top, value_otype}
use Rattle.cap_rights.specs.Opened.{opened}
use Rattle.cap_rights.specs.Permission.{permits}
use Rattle.cap_rights.specs.declared.permission.Permission.TheVariants.{CInvoke, Seal}
use Rattle.cap_checks.specs.FirstFault.{invoke_fault}
use Rattle.steps.specs.State.{State}
use Rattle.reached.specs.declared.member.Place.{Place}
use Rattle.reached.specs.Order.{Found, is_same_place, members_of}
use Rattle.doors.specs.declared.through.Door.{Door}
use Rattle.doors.specs.Roots.{roots_of, specials_of}

-- ---- which key opens a sealed value

-- CInvoke accepts the two as code and data; the registers that hold them are named by a fault alone, so any two serve
abbrev pub accepts : CapValue → CapValue → Bool
accepts code datum = is_none (invoke_fault code 0 datum 0)

-- values may be sealed with the type through the value
abbrev pub seals : CapValue → ℕ → Bool
seals c otype = not (is_sealed c) && (permits c Seal && (nat_le (value_base c) otype && nat_lt otype (value_top c)))

-- A sealed jump may open the first for code that holds it and the key: IsOpenedBy as a truth value.
unfoldable pub opens : CapValue → CapValue → Bool
opens c key =
    (value_otype c == sentry_type)
    || (accepts c key || (accepts key c || (is_sealed c && (permits c CInvoke && seals key (value_otype c)))))

-- ---- the door at a member

-- the first member that opens it
abbrev pub key_of : List Found → CapValue → Option Found
key_of [] c = None
key_of (x ∷ xs) c = if opens c x.value then Some x else key_of xs c

-- from a sealed value's place to its key's
abbrev pub door_to : Place → Place → Door
door_to sealed key = record { sealed = sealed; key = key }

-- a member that opens itself, as a sentry does, is its own key, and else the first that opens it is
abbrev pub door_of : List Found → Found → Option Door
door_of members x =
    if opens x.value x.value then Some (door_to x.place x.place) else option_map (λ key. door_to x.place key.place) (key_of members x.value)

-- ---- the doors that are open

-- open doors, and what each leads to
pub record OpenDoors : Type 0 where
  pub doors : List Door
  pub behind : List CapValue

abbrev pub open_doors : List Door → List CapValue → OpenDoors
open_doors doors behind = record { doors = doors; behind = behind }

abbrev pub none_open : OpenDoors
none_open = open_doors [] []

-- one of the doors is at this place
abbrev pub is_open_at : List Door → Place → Bool
is_open_at doors place = list_any (λ door. is_same_place door.sealed place) doors

-- with a door at a member, if there is one
abbrev pub with_door : Found → OpenDoors → Option Door → OpenDoors
with_door x o None = o
with_door x o (Some door) = open_doors (o.doors ++ door ∷ []) (o.behind ++ opened x.value ∷ [])

-- with the door at a member, where it is sealed and no door at its place is open yet
abbrev pub opened_at : List Found → Found → OpenDoors → OpenDoors
opened_at members x o =
    if not (is_sealed x.value) || is_open_at o.doors x.place then o else with_door x o (door_of members x)

-- with the doors at some members, whose keys are among all of them
abbrev pub round : List Found → List Found → OpenDoors → OpenDoors
round members [] o = o
round members (x ∷ xs) o = round members xs (opened_at members x o)

-- ---- the searches

-- what is found from the roots of a state and what the open doors lead to
abbrev pub members_behind : State → OpenDoors → List Found
members_behind s o = members_of (roots_of s ++ o.behind) (specials_of s.scrs) s.memory

-- a search's round
abbrev pub round_of : State → OpenDoors → OpenDoors
round_of s o = round (members_behind s o) (members_behind s o) o

-- Round after round, until one opens no door. Each but the last opens one, at a place of its own, so that so many rounds are enough.
abbrev pub rounds : ℕ → State → OpenDoors → OpenDoors
rounds zero s o = o
rounds (suc n) s o = if length (round_of s o).doors == length o.doors then o else rounds n s (round_of s o)

-- the doors of a state, in the order in which they are opened
unfoldable pub doors_in : State → List Door
doors_in s = (rounds (2 ^ 64) s none_open).doors

-- what is reachable through doors, in the order in which the last search finds it
unfoldable pub members_through : State → List Found
members_through s = members_behind s (rounds (2 ^ 64) s none_open)
