-- States that code cannot tell apart until the kernel runs: the words of *authority*'s Worlds, with the members of any set in place of
-- what is reachable. What no member opens may be anything in the other state.
use Rattle.std.specs.Prelude.{◌≡◌, ℕ, ◌-◌, ◌≤◌, List, length, take, drop, slice_index, Option}
use Rattle.base.specs.Ram.{ram_base}
use Rattle.cap_bounds.specs.CapValue.{CapValue}
use Rattle.cap_rights.specs.Rights.{OpensByte, OpensGranule}
use Rattle.tagged_memory.specs.Memory.{Memory, has_tag}
use Rattle.steps.specs.declared.ends.Why.{Why}
use Rattle.steps.specs.declared.event.Event.{Event}
use Rattle.steps.specs.State.{State}
use Rattle.authority.specs.Authority.{SameScrs}
use Rattle.machine.specs.Run.{run_after, run_sent}
use Rattle.machine.specs.Stretch.{EndsBefore}
use Rattle.doors.specs.Sets.{HasSystemBy}
use Rattle.doors.specs.Doors.{IsReachableThroughDoors}
use Rattle.doors.specs.Turn.{ArePlainOrJumps}

-- ---- over a set

-- an unsealed member with Load or Execute has the address in its bounds
pub record IsReadableBy (P : CapValue → Type 0) (address : ℕ) : Type 0 where
  pub source : CapValue
  pub member : P source
  pub opens : OpensByte source address

-- an unsealed member with Load and Load_Capability has the whole granule in its bounds
pub record IsTagReadableBy (P : CapValue → Type 0) (granule : ℕ) : Type 0 where
  pub source : CapValue
  pub member : P source
  pub opens : OpensGranule source granule

-- RAM of the same size, with the same byte at each address that a member reads and the same tag on each granule whose tag one reads
pub record AgreesInMemoryBy (P : CapValue → Type 0) (m other : Memory) : Type 0 where
  pub size : length other.bytes ≡ length m.bytes
  pub bytes : (a : ℕ) → ram_base ≤ a → IsReadableBy P a → slice_index other.bytes (a - ram_base) ≡ slice_index m.bytes (a - ram_base)
  pub tags : (granule : ℕ) → IsTagReadableBy P granule → has_tag other granule ≡ has_tag m granule

-- Two states agree over the set: the same registers, PCC, DDC, control and status registers and devices; memory that agrees; and the
-- four special registers that Access_System_Registers guards, where a member opens them.
pub record AgreeBy (P : CapValue → Type 0) (s t : State) : Type 0 where
  pub registers : t.registers ≡ s.registers
  pub pcc : t.scrs.pcc ≡ s.scrs.pcc
  pub ddc : t.scrs.ddc ≡ s.scrs.ddc
  pub csrs : t.csrs ≡ s.csrs
  pub devices : t.devices ≡ s.devices
  pub memory : AgreesInMemoryBy P s.memory t.memory
  pub scrs : HasSystemBy P → SameScrs s.scrs t.scrs

-- ---- through doors

-- the two agree in all that what is reachable through doors in the first opens
abbrev pub AgreeThroughDoors : State → State → Type 0
AgreeThroughDoors s t = AgreeBy (IsReachableThroughDoors s) s t

-- Over the same events two states send the same bytes, and come to states that agree in all that what was reachable through doors at
-- the first's start opens.
pub record IsTwinThroughDoors (events : List Event) (s t : State) : Type 0 where
  pub bytes : run_sent events t ≡ run_sent events s
  pub agree : AgreeBy (IsReachableThroughDoors s) (run_after events s) (run_after events t)

-- The second state's turn is the first's: it goes on over as many events and ends for the same reason; and after each of them both have
-- sent the same bytes, and agree.
pub record IsSameTurn (events : List Event) (done : ℕ) (why : Option Why) (s t : State) : Type 0 where
  pub goes_on : ArePlainOrJumps (take done events) t
  pub end : EndsBefore why (drop done events) (run_after (take done events) t)
  pub twins : (k : ℕ) → k ≤ done → IsTwinThroughDoors (take k events) s t
