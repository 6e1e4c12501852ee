-- What is lent without Global can't be kept: what comes to lie in memory, where members of a set of capabilities let it lie
-- (UCAM-CL-TR-987, capability permissions: Global, Permit_Store_Capability, Permit_Store_Local_Capability).
use Rattle.std.specs.Prelude.{◌≡◌, ℕ, true, false}
use Rattle.cap_bounds.specs.CapValue.{CapValue}
use Rattle.cap_rights.specs.Permission.{permits}
use Rattle.cap_rights.specs.declared.permission.Permission.TheVariants.{Global}
use Rattle.cap_rights.specs.Rights.{IsInRightsOf, OpensCapabilityStore, OpensKeeping}
use Rattle.tagged_memory.specs.Memory.{Memory}
use Rattle.authority.specs.Reachable.{IsHeldAt}

-- the value is within the rights of a member that has Global
pub record IsGivenBy (P : CapValue → Type 0) (v : CapValue) : Type 0 where
  pub source : CapValue
  pub member : P source
  pub global : permits source Global ≡ true
  pub within : IsInRightsOf v source

-- What a granule holds later it held before; or it has Global, was given with Global, and lies where a member may store capabilities;
-- or it hasn't, and lies where a member may keep what is lent.
pub data IsKeptBy (P : CapValue → Type 0) (m : Memory) (granule : ℕ) (v : CapValue) : Type 0 where
  before : IsHeldAt m granule v → IsKeptBy P m granule v
  given : permits v Global ≡ true → IsGivenBy P v → (c : CapValue) → P c → OpensCapabilityStore c granule → IsKeptBy P m granule v
  lent : permits v Global ≡ false → (c : CapValue) → P c → OpensKeeping c granule → IsKeptBy P m granule v

-- Beyond the set nothing that is lent is kept.
abbrev pub KeepsNothingLentBeyond : (CapValue → Type 0) → Memory → Memory → Type 0
KeepsNothingLentBeyond P m later = (granule : ℕ) (v : CapValue) → IsHeldAt later granule v → IsKeptBy P m granule v

-- no member may keep in the granule what is lent
abbrev pub NoneKeepsAt : (CapValue → Type 0) → ℕ → Type 0
NoneKeepsAt P granule = (c : CapValue) → P c → OpensKeeping c granule → ⊥
