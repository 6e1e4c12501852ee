-- Authority over what comes later: the rights, the seals and the places that a state's reachable capabilities give. Each definition
-- speaks of what is reachable at the start, and of nothing that the machine does.
use Rattle.std.specs.Prelude.{◌≡◌, ℕ, ◌+◌, ◌-◌, ◌<◌, ◌≤◌, true, List, [], length, slice_index}
use Rattle.base.specs.ObjectType.{sentry_type}
use Rattle.base.specs.Ram.{ram_base}
use Rattle.cap_bounds.specs.CapValue.{CapValue, is_sealed, value_otype}
use Rattle.cap_rights.specs.Rights.{IsInRightsOf, OpensSystem, OpensStore, OpensType}
use Rattle.tagged_memory.specs.Memory.{Memory, has_tag}
use Rattle.devices.specs.Devices.{Devices, halt, kept_place, control_register, transmit}
use Rattle.special_regs.specs.declared.csrs.Csrs.{Csrs}
use Rattle.special_regs.specs.Scrs.{Scrs}
use Rattle.steps.specs.State.{State}
use Rattle.authority.specs.Reachable.{IsReachable}

abbrev pub Not : Type 0 → Type 0
Not A = A → ⊥

-- ---- rights

-- the value is within the rights of a reachable one
pub record IsCovered (s : State) (v : CapValue) : Type 0 where
  pub source : CapValue
  pub reachable : IsReachable s source
  pub within : IsInRightsOf v source

-- No new rights: whatever is reachable later is within the rights of something that is reachable at the start.
abbrev pub NoNewRights : State → State → Type 0
NoNewRights s later = (v : CapValue) → IsReachable later v → IsCovered s v

-- ---- seals

-- a sealed value is reachable, or a sentry, or a reachable capability may seal with its type
pub data IsSealAllowed (s : State) (v : CapValue) : Type 0 where
  held : IsReachable s v → IsSealAllowed s v
  sentry : value_otype v ≡ sentry_type → IsSealAllowed s v
  sealed_by : (c : CapValue) → IsReachable s c → OpensType c (value_otype v) → IsSealAllowed s v

-- New seals: a sealed value that is reachable later, and wasn't at the start, is a sentry, or has a type that a capability which was
-- reachable at the start may seal with.
abbrev pub NewSealsAllowed : State → State → Type 0
NewSealsAllowed s later = (v : CapValue) → IsReachable later v → is_sealed v ≡ true → IsSealAllowed s v

-- ---- what is left alone

-- an unsealed reachable capability with Store has the address in its bounds
pub record IsWritable (s : State) (address : ℕ) : Type 0 where
  pub source : CapValue
  pub reachable : IsReachable s source
  pub opens : OpensStore source address

-- an unsealed reachable capability has Execute and Access_System_Registers
pub record HasSystem (s : State) : Type 0 where
  pub source : CapValue
  pub reachable : IsReachable s source
  pub opens : OpensSystem source

-- RAM keeps its size, each byte that is not writable, and the tag of each granule without a writable byte.
pub record LeavesMemory (s : State) (later : Memory) : Type 0 where
  pub size : length later.bytes ≡ length s.memory.bytes
  pub bytes :
      (a : ℕ) → ram_base ≤ a → Not (IsWritable s a)
      → slice_index later.bytes (a - ram_base) ≡ slice_index s.memory.bytes (a - ram_base)
  pub tags :
      (granule : ℕ) → ((a : ℕ) → granule ≤ a → a < granule + 16 → Not (IsWritable s a))
      → has_tag later granule ≡ has_tag s.memory granule

-- The halt and control registers and those that only keep a number, as mtimecmp, stay where their first byte is not writable.
pub record LeavesDevices (s : State) (later : Devices) : Type 0 where
  pub halt : Not (IsWritable s halt) → later.halted ≡ s.devices.halted
  pub kept : (k : ℕ) → Not (IsWritable s (kept_place k)) → slice_index later.kept k ≡ slice_index s.devices.kept k
  pub control : Not (IsWritable s control_register) → later.control ≡ s.devices.control

-- the special registers that Access_System_Registers guards are the same
pub record SameScrs (x later : Scrs) : Type 0 where
  pub mtcc : later.mtcc ≡ x.mtcc
  pub mtdc : later.mtdc ≡ x.mtdc
  pub mscratchc : later.mscratchc ≡ x.mscratchc
  pub mepcc : later.mepcc ≡ x.mepcc

-- every control and status register that is stored is the same, but for the counters of steps and instructions
pub record SameCsrs (c later : Csrs) : Type 0 where
  pub mstatus_mie : later.mstatus_mie ≡ c.mstatus_mie
  pub mstatus_mpie : later.mstatus_mpie ≡ c.mstatus_mpie
  pub mie : later.mie ≡ c.mie
  pub kept : later.kept ≡ c.kept
  pub mcause : later.mcause ≡ c.mcause
  pub mtval : later.mtval ≡ c.mtval

-- Left alone: memory and devices where they are not writable, and the system registers where nothing that is reachable opens them.
pub record LeavesAlone (s later : State) : Type 0 where
  pub memory : LeavesMemory s later.memory
  pub devices : LeavesDevices s later.devices
  pub scrs : Not (HasSystem s) → SameScrs s.scrs later.scrs
  pub csrs : Not (HasSystem s) → SameCsrs s.csrs later.csrs

-- No byte is sent where the transmit register is not writable.
abbrev pub IsSilent : State → List ℕ → Type 0
IsSilent s bytes = Not (IsWritable s transmit) → bytes ≡ []
