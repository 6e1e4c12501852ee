-- The words of the proof that authority doesn't grow: one invariant of values carries rights and seals together.
use Rattle.std.specs.Prelude.{◌≡◌, ℕ, true, ◌⊎◌}
use Rattle.cap_bounds.specs.CapValue.{CapValue, is_tagged, is_sealed}
use Rattle.steps.specs.State.{State}
use Rattle.authority.specs.Reachable.{IsRoot, IsSpecial, IsHeldAt, IsReachable}
use Rattle.authority.specs.Authority.{IsCovered, IsSealAllowed}

-- within reachable rights, and under a seal that is allowed
pub record IsGrounded (s : State) (v : CapValue) : Type 0 where
  pub covered : IsCovered s v
  pub seal : is_sealed v ≡ true → IsSealAllowed s v

abbrev pub IsGroundedIfTagged : State → CapValue → Type 0
IsGroundedIfTagged s v = is_tagged v ≡ true → IsGrounded s v

-- Authority doesn't grow: whatever is reachable later is grounded at the start.
pub record GrowsNot (s later : State) : Type 0 where
  pub grounded : (v : CapValue) → IsReachable later v → IsGrounded s v

-- where capabilities lie later, they lay before, or they are grounded
pub record IsFramed (s later : State) : Type 0 where
  pub roots : (v : CapValue) → is_tagged v ≡ true → IsRoot later v → IsGrounded s v
  pub specials : (v : CapValue) → is_tagged v ≡ true → IsSpecial later v → IsSpecial s v ⊎ IsGrounded s v
  pub granules : (granule : ℕ) (v : CapValue) → IsHeldAt later.memory granule v → IsHeldAt s.memory granule v ⊎ IsGrounded s v
