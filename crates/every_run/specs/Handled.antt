-- A kernel's own code that any code enters by traps: what a hart with marks stands for, and which of its steps are followed.
use Rattle.std.specs.Prelude.{◌≡◌, ◌⊎◌, ℕ, ◌-◌, ◌≤◌, ◌==◌, Bool, true, false, if◌then◌else◌, length, slice_index, slice_index_or}
use Rattle.std.specs.Prelude.{slice_set, is_some, Contains, Option, Some, None, Ok, List, ◌∷◌, ◌%◌, ◌<◌, replicate}
use Rattle.base.specs.declared.registers.scr.TheConstants.{MTDC, MSCRATCHC, MEPCC}
use Rattle.base.specs.Ram.{ram_base}
use Rattle.base.specs.Size.{bytes_of}
use Rattle.cap_bounds.specs.CapValue.{CapValue, is_tagged, value_address}
use Rattle.cap_rights.specs.Rights.{OpensGranule}
use Rattle.tagged_memory.specs.Memory.{Memory, has_tag}
use Rattle.isa_rows.specs.declared.kinds.Kind.{Kind}
use Rattle.isa_rows.specs.declared.kinds.Kind.TheVariants as kind
use Rattle.isa_rows.specs.declared.operands.Insn.{Insn}
use Rattle.isa_rows.specs.declared.rows.Row.TheVariants.{CTestSubset, CUnseal}
use Rattle.isa_rows.specs.Kind.{kind_of}
use Rattle.registers.specs.Registers.{register}
use Rattle.steps.specs.declared.effect.Effect.{Effect}
use Rattle.steps.specs.declared.effect.Effect.TheVariants.{Trap, Nothing, Write, DeviceStore, Jump, Link}
use Rattle.steps.specs.Accesses.{size_of, through_rs1}
use Rattle.steps.specs.Looks.{in_capability_mode}
use Rattle.steps.specs.MemoryRows.{place_of}
use Rattle.steps.specs.State.{State, pc_of}
use Rattle.steps.specs.Step.{fetch, step_effect, stepped}
use Rattle.isa_rows.specs.Decoded.{insn_of}
use Rattle.authority.specs.Reachable.{IsHeldAt}
use Rattle.special_regs.specs.Traps.{sentry_opened}
use Rattle.steps.specs.declared.event.Event.{Event}
use Rattle.steps.specs.IsState.{IsState}
use Rattle.machine.specs.Run.{run_after}
use Rattle.machine.specs.Stretch.{AreEvents}
use Rattle.doors.specs.Closed.{Bounds, IsGroundedBy}
use Rattle.doors.specs.Sets.{IsWritableBy}
use Rattle.reach.specs.declared.range.Range.{Range}
use Rattle.every_run.specs.declared.marks.Marks.{Marks}
use Rattle.every_run.specs.Known.{IsOutside}
use Rattle.every_run.specs.Lasting.{NoneApplies}
use Rattle.policy.specs.Terms.{Terms}
use Rattle.every_run.specs.Stands.{AreKnown, IsKnownData}

-- ---- marks

-- the register is unknown
abbrev pub unknown_in : Marks → ℕ → Bool
unknown_in marks n = slice_index_or marks.registers n false

-- the marks after a register is written: it is unknown then, or exact; the first always is exact
abbrev pub marked : ℕ → Bool → Marks → Marks
marked n unknown marks =
    record marks { registers = if n == 0 then marks.registers else slice_set marks.registers n unknown }

-- tagged, the value is grounded by the set
abbrev pub IsAny : (CapValue → Type 0) → CapValue → Type 0
IsAny P v = is_tagged v ≡ true → IsGroundedBy P v

-- what may be another value: an exact one is the same, and one that is unknown is grounded by the set, if it has a tag
abbrev pub IsSeen : (CapValue → Type 0) → Bool → CapValue → CapValue → Type 0
IsSeen P true v other = IsAny P other
IsSeen P false v other = other ≡ v

-- ---- states

-- RAM of the same size, with the same byte at each address that is known, and the same tag at each granule of known bytes
pub record IsSameKnown (Known : ℕ → Type 0) (m other : Memory) : Type 0 where
  pub size : length other.bytes ≡ length m.bytes
  pub bytes : (a : ℕ) → ram_base ≤ a → Known a → slice_index other.bytes (a - ram_base) ≡ slice_index m.bytes (a - ram_base)
  pub tags : (granule : ℕ) → AreKnown Known granule 16 → has_tag other granule ≡ has_tag m granule

-- what members open in memory is grounded by their set
abbrev pub HoldsGrounded : (CapValue → Type 0) → Memory → Type 0
HoldsGrounded P m = (c v : CapValue) (granule : ℕ) → P c → OpensGranule c granule → IsHeldAt m granule v → IsGroundedBy P v

-- A state of the kernel's code that stands for another, where any code began in the state o: the registers, MScratchC and MEPCC are the
-- same but for those that are unknown; DDC may be anything within the set; MTCC, MTDC and the bytes that are known are those of o;
-- interrupts are off; and where the one is halted, so is the other.
pub record StandsAmong (P : CapValue → Type 0) (Known : ℕ → Type 0) (o : State) (marks : Marks) (a s : State) : Type 0 where
  pub count : length marks.registers ≡ 32
  pub registers : (n : ℕ) → IsSeen P (unknown_in marks n) (register a.registers n) (register s.registers n)
  pub pcc : s.scrs.pcc ≡ a.scrs.pcc
  pub ddc : IsAny P s.scrs.ddc
  pub mtcc : s.scrs.mtcc ≡ o.scrs.mtcc
  pub mtdc : s.scrs.mtdc ≡ o.scrs.mtdc
  pub own_mtdc : a.scrs.mtdc ≡ o.scrs.mtdc
  pub mscratchc : IsSeen P marks.mscratchc a.scrs.mscratchc s.scrs.mscratchc
  pub mepcc : IsSeen P marks.mepcc a.scrs.mepcc s.scrs.mepcc
  pub off : s.csrs.mstatus_mie ≡ false
  pub memory : IsSameKnown Known o.memory s.memory
  pub own_memory : a.memory ≡ o.memory
  pub granules : HoldsGrounded P s.memory
  pub halted : is_some a.devices.halted ≡ true → is_some s.devices.halted ≡ true

-- ---- steps

-- an instruction whose two registers are exact looks at nothing that is unknown: it names neither DDC nor a special register, and loads
-- data that is known
abbrev pub LooksAtExact : (ℕ → Type 0) → Kind → Insn → State → Type 0
LooksAtExact Known kind.Csr insn a = ⊥
LooksAtExact Known kind.SpecialRw insn a = ⊥
LooksAtExact Known kind.Mret insn a = ⊥
LooksAtExact Known kind.Capability insn a = insn.row ≡ CTestSubset → ⊥
LooksAtExact Known kind.Load insn a =
    (through_rs1 insn.row (in_capability_mode a) ≡ true) × IsKnownData Known a.memory (place_of insn a) (bytes_of (size_of insn.row))
LooksAtExact Known kind.LoadCapability insn a =
    (through_rs1 insn.row (in_capability_mode a) ≡ true) × IsKnownData Known a.memory (place_of insn a) 16
LooksAtExact Known kind.Store insn a = through_rs1 insn.row (in_capability_mode a) ≡ true
LooksAtExact Known kind.StoreCapability insn a = through_rs1 insn.row (in_capability_mode a) ≡ true
LooksAtExact Known _ insn a = Unit {0}

-- the marks after an effect that is the same in each state: what it writes is exact, and it neither traps, nor stores into RAM, nor reads a
-- device, nor changes a special register
abbrev pub LeavesExact : Effect CapValue → Marks → Marks → Type 0
LeavesExact Nothing marks later = later ≡ marks
LeavesExact (Write w) marks later = later ≡ marked w.rd false marks
LeavesExact (DeviceStore w) marks later = later ≡ marks
LeavesExact (Jump target) marks later = later ≡ marks
LeavesExact (Link l) marks later = later ≡ marked l.rd false marks
LeavesExact _ marks later = ⊥

-- a register is unknown, or holds no capability
abbrev pub IsAmong : Marks → State → ℕ → Type 0
IsAmong marks a n = (unknown_in marks n ≡ true) ⊎ (is_tagged (register a.registers n) ≡ false)

-- whatever its registers hold, the instruction writes a register with a number, or with something of the set
abbrev pub GivesAmong : Kind → Insn → Marks → State → Type 0
GivesAmong kind.Integer insn marks a = Unit {0}
GivesAmong kind.MulDiv insn marks a = Unit {0}
GivesAmong kind.Capability insn marks a =
    (insn.row ≡ CUnseal → ⊥) × IsAmong marks a insn.rs1 × IsAmong marks a insn.rs2
GivesAmong _ insn marks a = ⊥

-- the effect is no trap
abbrev pub IsDone : Effect CapValue → Type 0
IsDone (Trap fault) = ⊥
IsDone _ = Unit {0}

-- the effect is a store into a device register
abbrev pub IsDeviceStore : Effect CapValue → Type 0
IsDeviceStore (DeviceStore w) = Unit {0}
IsDeviceStore _ = ⊥

-- A special register is read, and perhaps replaced: what is known of it goes to the register, and what is known of the register to it.
-- MTDC is read alone.
pub data MovesSpecial (insn : Insn) (marks later : Marks) : Type 0 where
  reads_mtdc : insn.rs2 ≡ MTDC → insn.rs1 ≡ 0 → later ≡ marked insn.rd false marks → MovesSpecial insn marks later
  reads_mscratchc : insn.rs2 ≡ MSCRATCHC → insn.rs1 ≡ 0 → later ≡ marked insn.rd marks.mscratchc marks → MovesSpecial insn marks later
  swaps_mscratchc : insn.rs2 ≡ MSCRATCHC → (insn.rs1 == 0) ≡ false
      → later ≡ record (marked insn.rd marks.mscratchc marks) { mscratchc = unknown_in marks insn.rs1 } → MovesSpecial insn marks later
  reads_mepcc : insn.rs2 ≡ MEPCC → insn.rs1 ≡ 0 → later ≡ marked insn.rd marks.mepcc marks → MovesSpecial insn marks later
  swaps_mepcc : insn.rs2 ≡ MEPCC → (insn.rs1 == 0) ≡ false
      → later ≡ record (marked insn.rd marks.mepcc marks) { mepcc = unknown_in marks insn.rs1 } → MovesSpecial insn marks later

-- The step's instruction is followed, and these are the marks after it: it looks at what is exact; or it writes a register with anything
-- of the set; or it moves a special register; or it stores any number into a device register.
pub data IsFollowed (Known : ℕ → Type 0) (a : State) (insn : Insn) (marks later : Marks) : Type 0 where
  by_exact : LooksAtExact Known (kind_of insn.row) insn a → unknown_in marks insn.rs1 ≡ false → unknown_in marks insn.rs2 ≡ false
      → LeavesExact (step_effect a) marks later → IsFollowed Known a insn marks later
  by_among : GivesAmong (kind_of insn.row) insn marks a → later ≡ marked insn.rd true marks → IsFollowed Known a insn marks later
  by_special : kind_of insn.row ≡ kind.SpecialRw → IsDone (step_effect a) → MovesSpecial insn marks later
      → IsFollowed Known a insn marks later
  by_store : kind_of insn.row ≡ kind.Store → unknown_in marks insn.rs1 ≡ false
      → through_rs1 insn.row (in_capability_mode a) ≡ true → IsDeviceStore (step_effect a) → later ≡ marks
      → IsFollowed Known a insn marks later

-- ---- where traps enter, and where they return to

-- the marks where a trap enters: any code may have put anything of its set in each register but the first, and MEPCC is the PCC that it had
abbrev pub entry_marks : Marks
entry_marks = record { registers = false ∷ replicate 31 true; mscratchc = false; mepcc = true }

-- A state where a trap enters, since the state o: PCC is MTCC, a sentry without its seal, and what any code can't change is that of o.
pub record BeginsAt (o a : State) : Type 0 where
  pub registers : a.registers ≡ o.registers
  pub pcc : a.scrs.pcc ≡ sentry_opened o.scrs.mtcc
  pub mtdc : a.scrs.mtdc ≡ o.scrs.mtdc
  pub mscratchc : a.scrs.mscratchc ≡ o.scrs.mscratchc
  pub memory : a.memory ≡ o.memory
  pub devices : a.devices ≡ o.devices

-- MTCC's address is a multiple of 4, so that interrupts have no entries of their own
abbrev pub IsDirect : State → Type 0
IsDirect o = value_address o.scrs.mtcc % 4 ≡ 0

-- A state in which any code of the set runs, since the state o: the set bounds it, and MTCC, MTDC, MScratchC and the bytes that are known
-- are those of o.
pub record IsAmongCode (P : CapValue → Type 0) (Known : ℕ → Type 0) (o s : State) : Type 0 where
  pub bounds : Bounds P s
  pub mtcc : s.scrs.mtcc ≡ o.scrs.mtcc
  pub mtdc : s.scrs.mtdc ≡ o.scrs.mtdc
  pub mscratchc : s.scrs.mscratchc ≡ o.scrs.mscratchc
  pub memory : IsSameKnown Known o.memory s.memory

-- it is unknown, or has no tag, or is a member
abbrev pub IsOfSet : (CapValue → Type 0) → Bool → CapValue → Type 0
IsOfSet P unknown v = unknown ≡ false → is_tagged v ≡ true → P v

-- What the return from a trap leaves is of the set: the registers, and MEPCC, which becomes PCC; MScratchC is what it was.
pub record ReturnsToSet (P : CapValue → Type 0) (o : State) (marks : Marks) (a : State) : Type 0 where
  pub registers : (n : ℕ) → n < 32 → IsOfSet P (unknown_in marks n) (register a.registers n)
  pub mepcc : IsOfSet P marks.mepcc a.scrs.mepcc
  pub exact : marks.mscratchc ≡ false
  pub mscratchc : a.scrs.mscratchc ≡ o.scrs.mscratchc

-- ---- runs of so many events at most

-- it holds in each state of a run of so many events at most
abbrev pub HoldsFor : (State → Type 0) → ℕ → State → Type 0
HoldsFor Hold n s = (events : List Event) → AreEvents events → length events ≤ n → Hold (run_after events s)

module _ (Hold : State → Type 0) (P : CapValue → Type 0) (Known : ℕ → Type 0) (o : State) where
  -- so it does from each state in which any code runs
  abbrev pub CodeHolds : ℕ → Type 0
  CodeHolds n = (s : State) → IsState s → IsAmongCode P Known o s → HoldsFor Hold n s

  -- and from each state that one of the kernel's code stands for
  abbrev pub KernelHolds : ℕ → Marks → State → Type 0
  KernelHolds n marks a = (s : State) → IsState s → StandsAmong P Known o marks a s → HoldsFor Hold n s

-- ---- what a trap does, from its entry to its end

-- what is fetched is the instruction
pub record IsFetched (a : State) (insn : Insn) : Type 0 where
  pub word : ℕ
  pub read : fetch a ≡ Ok word
  pub decoded : insn_of word ≡ Some insn

-- A step of a machine that runs: its instruction is followed; or it returns from the trap.
pub record IsFollowedTo (Known : ℕ → Type 0) (a : State) (marks later : Marks) : Type 0 where
  pub insn : Insn
  pub fetched : IsFetched a insn
  pub followed : IsFollowed Known a insn marks later

pub record IsReturn (P : CapValue → Type 0) (o : State) (a : State) (marks : Marks) : Type 0 where
  pub insn : Insn
  pub fetched : IsFetched a insn
  pub row : kind_of insn.row ≡ kind.Mret
  pub done : IsDone (step_effect a)
  pub returns : ReturnsToSet P o marks a

-- interrupts are off, the word at PCC is known, and no rule applies
pub record IsOwnCode (rules : List Terms) (Known : ℕ → Type 0) (a : State) : Type 0 where
  pub state : IsState a
  pub off : a.csrs.mstatus_mie ≡ false
  pub word : AreKnown Known (pc_of a) 4
  pub unruled : NoneApplies rules a

-- From here on a trap is handled: the machine is halted; or the next step returns, to code of the set; or it is followed, and from the
-- state after it the trap is handled.
pub data IsHandled (rules : List Terms) (P : CapValue → Type 0) (Known : ℕ → Type 0) (o : State) : Marks → State → Type 0 where
  is_over : {marks : Marks} {a : State} → IsOwnCode rules Known a → is_some a.devices.halted ≡ true → IsHandled rules P Known o marks a
  is_back : {marks : Marks} {a : State} → IsOwnCode rules Known a → a.devices.halted ≡ None → IsReturn P o a marks
      → IsHandled rules P Known o marks a
  is_on : {marks later : Marks} {a : State} → IsOwnCode rules Known a → a.devices.halted ≡ None → IsFollowedTo Known a marks later
      → IsHandled rules P Known o later (stepped a) → IsHandled rules P Known o marks a

-- what the next step leads to: it is followed, and these are the marks after it; or it returns
abbrev pub LeadsOn : (CapValue → Type 0) → (ℕ → Type 0) → State → Marks → State → Option Marks → Type 0
LeadsOn P Known o marks a (Some later) = IsFollowedTo Known a marks later
LeadsOn P Known o marks a None = IsReturn P o a marks

-- so the trap is handled; or it is, if it is from the state after the step on, with the marks after it
abbrev pub IsHandledAfter : List Terms → (CapValue → Type 0) → (ℕ → Type 0) → State → Marks → State → Option Marks → Type 0
IsHandledAfter rules P Known o marks a (Some later) = IsHandled rules P Known o later (stepped a) → IsHandled rules P Known o marks a
IsHandledAfter rules P Known o marks a None = IsHandled rules P Known o marks a

-- The kernel's code is handled, from its entry on, since the state o.
pub record HandlesTraps (rules : List Terms) (P : CapValue → Type 0) (Known : ℕ → Type 0) (o : State) : Type 0 where
  pub direct : IsDirect o
  pub entry : State
  pub begins : BeginsAt o entry
  pub handled : IsHandled rules P Known o entry_marks entry

-- ---- what any code leaves

-- the byte may not be any, and no member may write it
pub record IsKept (vs : List CapValue) (any : List Range) (a : ℕ) : Type 0 where
  pub outside : IsOutside any a
  pub unwritable : IsWritableBy (Contains vs) a → ⊥
