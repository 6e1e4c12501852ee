-- What is reachable from roots, over special registers and memory (UCAM-CL-TR-987, capability monotonicity: reachable capabilities).
use Rattle.std.specs.Prelude.{◌≡◌, ℕ, true, false, List, Contains}
use Rattle.cap_bounds.specs.CapValue.{CapValue, is_tagged, is_sealed, value_of}
use Rattle.cap_bounds.specs.Record.{IsWordWellFormed}
use Rattle.cap_rights.specs.declared.permission.Permission.TheVariants as permission
use Rattle.cap_rights.specs.Permission.{permits}
use Rattle.cap_rights.specs.Rights.{OpensSystem, OpensGranule}
use Rattle.tagged_memory.specs.Memory.{Memory, has_tag, word_at}

-- each tagged granule holds a word that is some capability's
abbrev pub HoldsCapabilities : Memory → Type 0
HoldsCapabilities m = (granule : ℕ) → has_tag m granule ≡ true → IsWordWellFormed (word_at m granule)

-- what a tagged granule holds
pub record IsHeldAt (m : Memory) (granule : ℕ) (v : CapValue) : Type 0 where
  pub tagged : has_tag m granule ≡ true
  pub value : v ≡ value_of (word_at m granule) true

-- what code can come to hold: the tagged roots; through a reachable value that opens the system the tagged special registers; through one
-- that opens a granule what the granule holds
pub data IsReachedFrom (roots specials : List CapValue) (m : Memory) : CapValue → Type 0 where
  from_root : {v : CapValue} → is_tagged v ≡ true → Contains roots v → IsReachedFrom roots specials m v
  from_special :
      {c v : CapValue}
      → IsReachedFrom roots specials m c → OpensSystem c → is_tagged v ≡ true → Contains specials v → IsReachedFrom roots specials m v
  from_granule :
      {c v : CapValue} (granule : ℕ)
      → IsReachedFrom roots specials m c → OpensGranule c granule → IsHeldAt m granule v → IsReachedFrom roots specials m v

-- unsealed, with Load and Load_Capability
pub record OpensCapabilities (c : CapValue) : Type 0 where
  pub unsealed : is_sealed c ≡ false
  pub loads : permits c permission.Load ≡ true
  pub capabilities : permits c permission.LoadCapability ≡ true
