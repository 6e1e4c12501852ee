-- The reach of a state.
use Rattle.std.specs.Prelude.{List, Contains}
use Rattle.cap_bounds.specs.CapValue.{CapValue}
use Rattle.cap_rights.specs.Rights.{IsInRightsOf}
use Rattle.steps.specs.State.{State}
use Rattle.authority.specs.Reachable.{IsReachable}
use Rattle.reached.specs.Order.{Found, members_of}
use Rattle.doors.specs.Roots.{roots_of, specials_of}

-- the members of a state's reach, in the order in which they are found
abbrev pub members_in : State → List Found
members_in s = members_of (roots_of s) (specials_of s.scrs) s.memory

-- the values are those that are reachable in a state, no more and no fewer
pub record AreReachable (s : State) (vs : List CapValue) : Type 0 where
  pub sound : (v : CapValue) → Contains vs v → IsReachable s v
  pub complete : (v : CapValue) → IsReachable s v → Contains vs v

-- the value is within the rights of one of the values
pub record IsWithinOne (vs : List CapValue) (v : CapValue) : Type 0 where
  pub source : CapValue
  pub is_one : Contains vs source
  pub within : IsInRightsOf v source
