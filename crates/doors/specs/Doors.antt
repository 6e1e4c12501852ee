-- What code can come to hold, and what the doors that it can open lead to, from a state on until a trap or an unsealing: until the
-- kernel runs.
use Rattle.std.specs.Prelude.{◌≡◌, ℕ, true, List}
use Rattle.cap_bounds.specs.CapValue.{CapValue, is_tagged}
use Rattle.cap_rights.specs.Opened.{opened}
use Rattle.cap_rights.specs.Rights.{OpensSystem, OpensGranule}
use Rattle.steps.specs.State.{State}
use Rattle.authority.specs.Reachable.{IsRoot, IsSpecial, IsHeldAt}
use Rattle.doors.specs.Sets.{NoRightsBeyond, NoSealsBeyond, LeavesAloneBeyond, IsSilentBeyond}
use Rattle.doors.specs.Closed.{IsOpenedBy}

-- Reachable through doors: what is reachable, by the same three links over itself; and a sealed value that is reachable so, without its
-- seal, where a key that is reachable so opens it.
pub data IsReachableThroughDoors (s : State) : CapValue → Type 0 where
  from_root : {v : CapValue} → is_tagged v ≡ true → IsRoot s v → IsReachableThroughDoors s v
  from_special :
      {c v : CapValue} → IsReachableThroughDoors s c → OpensSystem c → is_tagged v ≡ true → IsSpecial s v → IsReachableThroughDoors s v
  from_granule :
      {c v : CapValue} (granule : ℕ) → IsReachableThroughDoors s c → OpensGranule c granule → IsHeldAt s.memory granule v
      → IsReachableThroughDoors s v
  behind_door :
      {c key : CapValue} → IsReachableThroughDoors s c → IsReachableThroughDoors s key → IsOpenedBy c key
      → IsReachableThroughDoors s (opened c)

-- ---- authority through doors

-- whatever is reachable later is within the rights of something that is reachable through doors at the start
abbrev pub NoNewRightsThroughDoors : State → State → Type 0
NoNewRightsThroughDoors s later = NoRightsBeyond (IsReachableThroughDoors s) later

-- a sealed value that is reachable later is reachable through doors at the start, or a sentry, or has a type that something reachable so
-- may seal with
abbrev pub NewSealsAllowedThroughDoors : State → State → Type 0
NewSealsAllowedThroughDoors s later = NoSealsBeyond (IsReachableThroughDoors s) later

-- memory, devices and system registers stay where nothing that is reachable through doors opens them
abbrev pub LeavesAloneThroughDoors : State → State → Type 0
LeavesAloneThroughDoors s later = LeavesAloneBeyond (IsReachableThroughDoors s) s later

-- no byte is sent where nothing that is reachable through doors may write the transmit register
abbrev pub IsSilentThroughDoors : State → List ℕ → Type 0
IsSilentThroughDoors s bytes = IsSilentBeyond (IsReachableThroughDoors s) bytes
