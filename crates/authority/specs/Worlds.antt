-- States that code cannot tell apart, without a trap, an unsealing or a sealed jump: they agree in all that the reachable capabilities
-- of the first let it look at. What no such capability opens may be anything in the other.
use Rattle.std.specs.Prelude.{◌≡◌, ℕ, ◌-◌, ◌≤◌, length, slice_index}
use Rattle.base.specs.Ram.{ram_base}
use Rattle.cap_bounds.specs.CapValue.{CapValue}
use Rattle.cap_rights.specs.Rights.{OpensByte, OpensGranule}
use Rattle.tagged_memory.specs.Memory.{Memory, has_tag}
use Rattle.steps.specs.State.{State}
use Rattle.authority.specs.Reachable.{IsReachable}
use Rattle.authority.specs.Authority.{HasSystem, SameScrs}

-- an unsealed reachable capability with Load or Execute has the address in its bounds
pub record IsReadable (s : State) (address : ℕ) : Type 0 where
  pub source : CapValue
  pub reachable : IsReachable s source
  pub opens : OpensByte source address

-- an unsealed reachable capability with Load and Load_Capability has the whole granule in its bounds
pub record IsTagReadable (s : State) (granule : ℕ) : Type 0 where
  pub source : CapValue
  pub reachable : IsReachable s source
  pub opens : OpensGranule source granule

-- RAM of the same size, with the same byte at each readable address and the same tag on each granule whose tag is readable
pub record AgreesInMemory (s : State) (other : Memory) : Type 0 where
  pub size : length other.bytes ≡ length s.memory.bytes
  pub bytes :
      (a : ℕ) → ram_base ≤ a → IsReadable s a
      → slice_index other.bytes (a - ram_base) ≡ slice_index s.memory.bytes (a - ram_base)
  pub tags : (granule : ℕ) → IsTagReadable s granule → has_tag other granule ≡ has_tag s.memory granule

-- Two states agree: the same registers, PCC, DDC, control and status registers and devices; memory that agrees; and the four special
-- registers that Access_System_Registers guards, tagged or not, where a reachable capability opens them. (mtvec and mepc are views of
-- MTCC and MEPCC, and none of the control and status registers that are stored.)
pub record Agree (s t : State) : Type 0 where
  pub registers : t.registers ≡ s.registers
  pub pcc : t.scrs.pcc ≡ s.scrs.pcc
  pub ddc : t.scrs.ddc ≡ s.scrs.ddc
  pub csrs : t.csrs ≡ s.csrs
  pub devices : t.devices ≡ s.devices
  pub memory : AgreesInMemory s t.memory
  pub scrs : HasSystem s → SameScrs s.scrs t.scrs
