-- Steps that are the same wherever hidden bytes, the counters and the devices differ: what a state that is known stands for, and which
-- steps from it look at what is known alone.
use Rattle.std.specs.Prelude.{◌≡◌, ℕ, ◌+◌, ◌-◌, ◌<◌, ◌≤◌, ◌==◌, Bool, true, false, not, ◌||◌, length, slice_index, None, Some}
use Rattle.base.specs.declared.registers.csr.TheConstants.{MIP, MCYCLE, MINSTRET}
use Rattle.base.specs.Ram.{ram_base}
use Rattle.base.specs.Size.{bytes_of}
use Rattle.cap_bounds.specs.CapValue.{CapValue}
use Rattle.tagged_memory.specs.Memory.{Memory, has_tag, is_in_ram}
use Rattle.devices.specs.Devices.{halt}
use Rattle.isa_rows.specs.declared.kinds.Kind.TheVariants as kind
use Rattle.isa_rows.specs.declared.operands.Insn.{Insn}
use Rattle.isa_rows.specs.Kind.{kind_of}
use Rattle.steps.specs.declared.effect.Effect.{Effect}
use Rattle.steps.specs.declared.effect.Effect.TheVariants.{DeviceLoad, DeviceStore}
use Rattle.steps.specs.Accesses.{size_of}
use Rattle.steps.specs.MemoryRows.{place_of}
use Rattle.steps.specs.State.{State, pc_of}
use Rattle.steps.specs.Step.{insn_fetched, step_effect, step_fetched}
use Rattle.steps.specs.SystemRows.{csr_number}
use Rattle.authority.specs.Authority.{SameCsrs}

-- RAM of the same size, with the same tags, and with the same byte at each address that is known
pub record IsSameWhere (Known : ℕ → Type 0) (m other : Memory) : Type 0 where
  pub size : length other.bytes ≡ length m.bytes
  pub bytes : (a : ℕ) → ram_base ≤ a → Known a → slice_index other.bytes (a - ram_base) ≡ slice_index m.bytes (a - ram_base)
  pub tags : (granule : ℕ) → has_tag other granule ≡ has_tag m granule

-- A state stands for each that differs from it in bytes that aren't known, in mcycle and minstret, and in its devices, and isn't halted.
pub record StandsFor (Known : ℕ → Type 0) (a s : State) : Type 0 where
  pub registers : s.registers ≡ a.registers
  pub scrs : s.scrs ≡ a.scrs
  pub csrs : SameCsrs a.csrs s.csrs
  pub memory : IsSameWhere Known a.memory s.memory
  pub running : s.devices.halted ≡ None

-- so many bytes from an address are known
abbrev pub AreKnown : (ℕ → Type 0) → ℕ → ℕ → Type 0
AreKnown Known address size = (b : ℕ) → address ≤ b → b < address + size → Known b

-- it is data in RAM that is known
pub record IsKnownData (Known : ℕ → Type 0) (m : Memory) (address size : ℕ) : Type 0 where
  pub inside : is_in_ram m address size ≡ true
  pub known : AreKnown Known address size

-- a control and status register that every run reads the same: not what devices ask for, nor the counters
abbrev pub is_steady : ℕ → Bool
is_steady number = not (MIP == number || (MCYCLE == number || MINSTRET == number))

-- a control and status register that the instruction uses is steady, and what it loads is known
pub record LooksAtKnown (Known : ℕ → Type 0) (insn : Insn) (a : State) : Type 0 where
  pub csr : kind_of insn.row ≡ kind.Csr → is_steady (csr_number insn) ≡ true
  pub number : kind_of insn.row ≡ kind.Load → IsKnownData Known a.memory (place_of insn a) (bytes_of (size_of insn.row))
  pub capability : kind_of insn.row ≡ kind.LoadCapability → IsKnownData Known a.memory (place_of insn a) 16

-- the effect reads no device, and doesn't halt the machine
abbrev pub LeavesDevices : Effect CapValue → Type 0
LeavesDevices (DeviceLoad load) = ⊥
LeavesDevices (DeviceStore store) = (store.address == halt) ≡ false
LeavesDevices _ = Unit {0}

-- the machine runs, no interrupt can be taken, and the word at PCC is known
pub record IsRunning (Known : ℕ → Type 0) (a : State) : Type 0 where
  pub running : a.devices.halted ≡ None
  pub uninterrupted : a.csrs.mstatus_mie ≡ false
  pub word : AreKnown Known (pc_of a) 4

-- The next step looks at what is known alone, its word and what the instruction looks at.
pub record IsKnownStep (Known : ℕ → Type 0) (a : State) : Type 0 where
  pub runs : IsRunning Known a
  pub looks : (insn : Insn) → insn_fetched (step_fetched a) ≡ Some insn → LooksAtKnown Known insn a
  pub effect : LeavesDevices (step_effect a)
