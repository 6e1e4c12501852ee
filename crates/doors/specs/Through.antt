-- What is found of what is reachable through doors, and the doors that lead there.
use Rattle.std.specs.Prelude.{◌≡◌, ◌≢◌, ℕ, ◌<◌, List, ◌++◌, length, take, Contains, Some, slice_get, slice_index_or}
use Rattle.base.specs.ObjectType.{sentry_type}
use Rattle.cap_bounds.specs.CapValue.{CapValue, value_otype}
use Rattle.cap_rights.specs.Opened.{opened}
use Rattle.steps.specs.State.{State}
use Rattle.reached.specs.declared.member.Member.{Member}
use Rattle.reached.specs.declared.member.Place.{Place}
use Rattle.reached.specs.declared.member.Place.TheVariants.{Root, Special, Granule}
use Rattle.reached.specs.Links.{AreLinked}
use Rattle.reached.specs.Reached.{IsHeldAt}
use Rattle.doors.specs.declared.through.Door.{Door}
use Rattle.doors.specs.Closed.{IsOpenedBy}
use Rattle.doors.specs.Doors.{IsReachableThroughDoors}
use Rattle.doors.specs.Roots.{roots_of, specials_of}

-- the values are those that are reachable through doors in a state, no more and no fewer
pub record AreReachableThroughDoors (s : State) (vs : List CapValue) : Type 0 where
  pub sound : (v : CapValue) → Contains vs v → IsReachableThroughDoors s v
  pub complete : (v : CapValue) → IsReachableThroughDoors s v → Contains vs v

-- the value stands at the place, where these are the roots
abbrev pub IsAt : List CapValue → State → Place → CapValue → Type 0
IsAt roots s (Root n) v = slice_get roots n ≡ Some v
IsAt roots s (Special n) v = slice_get (specials_of s.scrs) n ≡ Some v
IsAt roots s (Granule granule) v = IsHeldAt s.memory granule v

-- A door that leads to a value: a sealed value and a key to it stand at the two places, both are reachable through doors, and the door
-- leads to the sealed one without its seal. A sentry, which any key opens, is its own key.
pub record IsDoor (roots : List CapValue) (s : State) (door : Door) (behind : CapValue) : Type 0 where
  pub sealed : CapValue
  pub key : CapValue
  pub sealed_at : IsAt roots s door.sealed sealed
  pub key_at : IsAt roots s door.key key
  pub sealed_reachable : IsReachableThroughDoors s sealed
  pub key_reachable : IsReachableThroughDoors s key
  pub opens : IsOpenedBy sealed key
  pub own_key : value_otype sealed ≡ sentry_type → door.key ≡ door.sealed
  pub behind_is : behind ≡ opened sealed

-- no two are at one place
abbrev pub AreApart : List Door → Type 0
AreApart doors =
    (j k : ℕ) (d e : Door) → j < k → k < length doors → (slice_index_or doors j d).sealed ≢ (slice_index_or doors k e).sealed

-- Doors in the order in which they are opened, each with the value that it leads to. A root that one names is the state's, or what an
-- earlier door leads to.
pub record AreDoors (s : State) (doors : List Door) (behind : List CapValue) : Type 0 where
  pub many : length behind ≡ length doors
  pub apart : AreApart doors
  pub each : (k : ℕ) (door : Door) (v : CapValue) → k < length doors
      → IsDoor (roots_of s ++ take k behind) s (slice_index_or doors k door) (slice_index_or behind k v)

-- Each member has its link, where what the doors lead to are roots after those of the state.
pub record AreLinkedThroughDoors {X : Type 0} (value : X → CapValue) (s : State) (members : List (Member X)) (doors : List Door)
    : Type 0 where
  pub behind : List CapValue
  pub are_doors : AreDoors s doors behind
  pub linked : AreLinked value (roots_of s ++ behind) (specials_of s.scrs) s.memory members
