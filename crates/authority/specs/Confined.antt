-- Code that holds nothing but PCC and DDC, both narrowed: a compartment between two switches. What *authority* and *two worlds* promise
-- of it says nothing of what is reachable: the two capabilities are all.
use Rattle.std.specs.Prelude.{◌≡◌, ℕ, ◌+◌, ◌-◌, ◌<◌, ◌≤◌, false, length, slice_index, ◌⊎◌}
use Rattle.base.specs.ObjectType.{sentry_type}
use Rattle.base.specs.Ram.{ram_base}
use Rattle.cap_bounds.specs.CapValue.{CapValue, is_tagged, value_base, value_top, value_otype}
use Rattle.cap_rights.specs.Permission.{permits}
use Rattle.cap_rights.specs.Rights.{IsInRightsOf, OpensGranule}
use Rattle.cap_rights.specs.declared.permission.Permission.TheVariants as permission
use Rattle.tagged_memory.specs.Memory.{has_tag}
use Rattle.registers.specs.Registers.{register}
use Rattle.steps.specs.State.{State}
use Rattle.authority.specs.Authority.{SameScrs, SameCsrs}

-- the address lies in the bounds
abbrev pub Spans : CapValue → ℕ → Type 0
Spans c address = (value_base c ≤ address) × (address < value_top c)

-- neither PCC nor DDC uses system registers or seals, and PCC stores nothing
pub record AreNarrow (pcc ddc : CapValue) : Type 0 where
  pub stores : permits pcc permission.Store ≡ false
  pub code_system : permits pcc permission.AccessSystemRegisters ≡ false
  pub data_system : permits ddc permission.AccessSystemRegisters ≡ false
  pub code_seals : permits pcc permission.Seal ≡ false
  pub data_seals : permits ddc permission.Seal ≡ false

-- No register holds a capability; PCC and DDC are narrow; in the granules that they load capabilities from none lies; and DDC's bounds
-- begin in RAM, so that no device lies in them.
pub record IsConfined (s : State) : Type 0 where
  pub registers : (n : ℕ) → is_tagged (register s.registers n) ≡ false
  pub narrow : AreNarrow s.scrs.pcc s.scrs.ddc
  pub code_granules : (granule : ℕ) → OpensGranule s.scrs.pcc granule → has_tag s.memory granule ≡ false
  pub data_granules : (granule : ℕ) → OpensGranule s.scrs.ddc granule → has_tag s.memory granule ≡ false
  pub in_ram : ram_base ≤ value_base s.scrs.ddc

-- ---- what it may hold later

-- a value within the rights of PCC or of DDC
abbrev pub IsOfTheTwo : State → CapValue → Type 0
IsOfTheTwo s v = IsInRightsOf v s.scrs.pcc ⊎ IsInRightsOf v s.scrs.ddc

-- sealed it is a sentry, or PCC or DDC as they were
abbrev pub IsSealedAsTheTwo : State → CapValue → Type 0
IsSealedAsTheTwo s v = (value_otype v ≡ sentry_type) ⊎ ((v ≡ s.scrs.pcc) ⊎ (v ≡ s.scrs.ddc))

-- ---- what stays

-- RAM but for the bytes in DDC's bounds and the tags of granules with a byte there; the halt and control registers and those that only
-- keep a number, as mtimecmp; the four special registers and the control and status registers, but for the counters
pub record StaysOutside (s later : State) : Type 0 where
  pub size : length later.memory.bytes ≡ length s.memory.bytes
  pub bytes :
      (a : ℕ) → ram_base ≤ a → (a < value_base s.scrs.ddc) ⊎ (value_top s.scrs.ddc ≤ a)
      → slice_index later.memory.bytes (a - ram_base) ≡ slice_index s.memory.bytes (a - ram_base)
  pub tags :
      (granule : ℕ) → (granule + 16 ≤ value_base s.scrs.ddc) ⊎ (value_top s.scrs.ddc ≤ granule)
      → has_tag later.memory granule ≡ has_tag s.memory granule
  pub halted : later.devices.halted ≡ s.devices.halted
  pub kept : (k : ℕ) → slice_index later.devices.kept k ≡ slice_index s.devices.kept k
  pub control : later.devices.control ≡ s.devices.control
  pub scrs : SameScrs s.scrs later.scrs
  pub csrs : SameCsrs s.csrs later.csrs

-- ---- what it can't tell apart

-- the same registers, PCC, DDC, control and status registers, devices and size of RAM; the same bytes in PCC's bounds and in DDC's; and
-- no tag where they load capabilities from. All else may be anything.
pub record LooksTheSame (s t : State) : Type 0 where
  pub registers : t.registers ≡ s.registers
  pub pcc : t.scrs.pcc ≡ s.scrs.pcc
  pub ddc : t.scrs.ddc ≡ s.scrs.ddc
  pub csrs : t.csrs ≡ s.csrs
  pub devices : t.devices ≡ s.devices
  pub size : length t.memory.bytes ≡ length s.memory.bytes
  pub bytes :
      (a : ℕ) → ram_base ≤ a → Spans s.scrs.pcc a ⊎ Spans s.scrs.ddc a
      → slice_index t.memory.bytes (a - ram_base) ≡ slice_index s.memory.bytes (a - ram_base)
  pub tags :
      (granule : ℕ) → OpensGranule s.scrs.pcc granule ⊎ OpensGranule s.scrs.ddc granule
      → has_tag t.memory granule ≡ false
