-- What a capability gives to whoever holds it: the values that lie within its rights, and what it opens (UCAM-CL-TR-987, capability
-- monotonicity and intentional use).
use Rattle.std.specs.Prelude.{◌≡◌, ℕ, ◌+◌, ◌<◌, ◌≤◌, true, false, ◌⊎◌}
use Rattle.cap_bounds.specs.CapValue.{CapValue, is_sealed, value_base, value_top}
use Rattle.cap_rights.specs.declared.permission.Permission.TheVariants as permission
use Rattle.cap_rights.specs.Permission.{permits}
use Rattle.cap_rights.specs.Within.{IsWithin}

-- A value is within the rights of an unsealed one if its bounds lie in that one's bounds and its permissions are among that one's, and
-- within the rights of a sealed one if it is that one.
pub record IsInRightsOf (v outer : CapValue) : Type 0 where
  pub of_unsealed : is_sealed outer ≡ false → IsWithin v outer
  pub of_sealed : is_sealed outer ≡ true → v ≡ outer

-- unsealed, with Execute and Access_System_Registers: code that jumps there may use the system registers
pub record OpensSystem (c : CapValue) : Type 0 where
  pub unsealed : is_sealed c ≡ false
  pub executes : permits c permission.Execute ≡ true
  pub system : permits c permission.AccessSystemRegisters ≡ true

-- unsealed, with Load and Load_Capability, and the granule lies wholly in its bounds: what the granule holds may be loaded with its tag
pub record OpensGranule (c : CapValue) (granule : ℕ) : Type 0 where
  pub unsealed : is_sealed c ≡ false
  pub loads : permits c permission.Load ≡ true
  pub capabilities : permits c permission.LoadCapability ≡ true
  pub base : value_base c ≤ granule
  pub top : granule + 16 ≤ value_top c

-- unsealed, with Store, and the address lies in its bounds: a byte may be stored there
pub record OpensStore (c : CapValue) (address : ℕ) : Type 0 where
  pub unsealed : is_sealed c ≡ false
  pub stores : permits c permission.Store ≡ true
  pub base : value_base c ≤ address
  pub top : address < value_top c

-- unsealed, with Store and Store_Capability, and the granule lies wholly in its bounds: a capability may be stored there with its tag
pub record OpensCapabilityStore (c : CapValue) (granule : ℕ) : Type 0 where
  pub unsealed : is_sealed c ≡ false
  pub stores : permits c permission.Store ≡ true
  pub capabilities : permits c permission.StoreCapability ≡ true
  pub base : value_base c ≤ granule
  pub top : granule + 16 ≤ value_top c

-- and with Store_Local_Capability: there a capability without Global may be kept
pub record OpensKeeping (c : CapValue) (granule : ℕ) : Type 0 where
  pub store : OpensCapabilityStore c granule
  pub locals : permits c permission.StoreLocalCapability ≡ true

-- unsealed, with Load or Execute, and the address lies in its bounds: the byte there may be loaded, or fetched as code
pub record OpensByte (c : CapValue) (address : ℕ) : Type 0 where
  pub unsealed : is_sealed c ≡ false
  pub reads : (permits c permission.Load ≡ true) ⊎ (permits c permission.Execute ≡ true)
  pub base : value_base c ≤ address
  pub top : address < value_top c

-- unsealed, with Seal, and the object type lies in its bounds: values may be sealed with it
pub record OpensType (c : CapValue) (otype : ℕ) : Type 0 where
  pub unsealed : is_sealed c ≡ false
  pub seals : permits c permission.Seal ≡ true
  pub base : value_base c ≤ otype
  pub top : otype < value_top c
