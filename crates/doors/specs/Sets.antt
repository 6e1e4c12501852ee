-- Authority over a set of capabilities: the words of *authority*, with the members of any set in place of what is reachable.
use Rattle.std.specs.Prelude.{◌≡◌, ℕ, ◌+◌, ◌-◌, ◌<◌, ◌≤◌, true, List, [], length, slice_index}
use Rattle.base.specs.ObjectType.{sentry_type}
use Rattle.base.specs.Ram.{ram_base}
use Rattle.cap_bounds.specs.CapValue.{CapValue, is_sealed, value_otype}
use Rattle.cap_rights.specs.Rights.{IsInRightsOf, OpensSystem, OpensStore, OpensType}
use Rattle.tagged_memory.specs.Memory.{Memory, has_tag}
use Rattle.devices.specs.Devices.{Devices, halt, kept_place, control_register, transmit}
use Rattle.steps.specs.State.{State}
use Rattle.authority.specs.Authority.{Not, SameScrs, SameCsrs}
use Rattle.authority.specs.Reachable.{IsReachable}

-- ---- rights

-- the value is within the rights of a member
pub record IsCoveredBy (P : CapValue → Type 0) (v : CapValue) : Type 0 where
  pub source : CapValue
  pub member : P source
  pub within : IsInRightsOf v source

-- No rights beyond the set: whatever is reachable later is within the rights of a member.
abbrev pub NoRightsBeyond : (CapValue → Type 0) → State → Type 0
NoRightsBeyond P later = (v : CapValue) → IsReachable later v → IsCoveredBy P v

-- ---- seals

-- a sealed value is a member, or a sentry, or a member may seal with its type
pub data IsSealAllowedBy (P : CapValue → Type 0) (v : CapValue) : Type 0 where
  as_member : P v → IsSealAllowedBy P v
  as_sentry : value_otype v ≡ sentry_type → IsSealAllowedBy P v
  by_member : (c : CapValue) → P c → OpensType c (value_otype v) → IsSealAllowedBy P v

-- No seals beyond the set: a sealed value that is reachable later is a member, a sentry, or one that a member may seal.
abbrev pub NoSealsBeyond : (CapValue → Type 0) → State → Type 0
NoSealsBeyond P later = (v : CapValue) → IsReachable later v → is_sealed v ≡ true → IsSealAllowedBy P v

-- ---- what is left alone

-- an unsealed member with Store has the address in its bounds
pub record IsWritableBy (P : CapValue → Type 0) (address : ℕ) : Type 0 where
  pub source : CapValue
  pub member : P source
  pub opens : OpensStore source address

-- an unsealed member has Execute and Access_System_Registers
pub record HasSystemBy (P : CapValue → Type 0) : Type 0 where
  pub source : CapValue
  pub member : P source
  pub opens : OpensSystem source

-- RAM keeps its size, each byte that no member may write, and the tag of each granule without a byte that one may.
pub record LeavesMemoryBeyond (P : CapValue → Type 0) (m later : Memory) : Type 0 where
  pub size : length later.bytes ≡ length m.bytes
  pub bytes :
      (a : ℕ) → ram_base ≤ a → Not (IsWritableBy P a) → slice_index later.bytes (a - ram_base) ≡ slice_index m.bytes (a - ram_base)
  pub tags :
      (granule : ℕ) → ((a : ℕ) → granule ≤ a → a < granule + 16 → Not (IsWritableBy P a)) → has_tag later granule ≡ has_tag m granule

-- The halt and control registers and those that only keep a number, as mtimecmp, stay where no member may write their first byte.
pub record LeavesDevicesBeyond (P : CapValue → Type 0) (d later : Devices) : Type 0 where
  pub halt : Not (IsWritableBy P halt) → later.halted ≡ d.halted
  pub kept : (k : ℕ) → Not (IsWritableBy P (kept_place k)) → slice_index later.kept k ≡ slice_index d.kept k
  pub control : Not (IsWritableBy P control_register) → later.control ≡ d.control

-- Left alone beyond the set: memory and devices where no member may write, and the system registers where none opens them.
pub record LeavesAloneBeyond (P : CapValue → Type 0) (s later : State) : Type 0 where
  pub memory : LeavesMemoryBeyond P s.memory later.memory
  pub devices : LeavesDevicesBeyond P s.devices later.devices
  pub scrs : Not (HasSystemBy P) → SameScrs s.scrs later.scrs
  pub csrs : Not (HasSystemBy P) → SameCsrs s.csrs later.csrs

-- No byte is sent where no member may write the transmit register.
abbrev pub IsSilentBeyond : (CapValue → Type 0) → List ℕ → Type 0
IsSilentBeyond P bytes = Not (IsWritableBy P transmit) → bytes ≡ []
