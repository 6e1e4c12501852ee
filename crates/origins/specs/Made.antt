-- What a step writes at a place: the effect says whether and where, the row how it is made (UCAM-CL-TR-987, ISA reference).
use Rattle.std.specs.Prelude.{ℕ, ◌+◌, ◌*◌, ◌/◌, ◌%◌, ◌^◌, not, ◌&&◌, ◌==◌, if◌then◌else◌, Option, Some, None}
use Rattle.base.specs.Size.{bytes_of}
use Rattle.base.specs.declared.fault.Fault.{Fault}
use Rattle.base.specs.declared.registers.csr.TheConstants.{MTVEC, MEPC}
use Rattle.base.specs.declared.registers.scr.TheConstants.{PCC, MTCC, MEPCC}
use Rattle.cap_bounds.specs.CapValue.{CapValue, is_tagged, value_address, value_base}
use Rattle.cap_bounds.specs.SetAddress.{at_address}
use Rattle.cap_insns.specs.CapabilityRows.{sum}
use Rattle.cap_rights.specs.Perms.{perms_in_view}
use Rattle.origins.specs.declared.place.Place.{Place}
use Rattle.origins.specs.declared.place.Place.TheVariants as place
use Rattle.isa_rows.specs.Kind.{kind_of}
use Rattle.isa_rows.specs.declared.kinds.Kind.{Kind}
use Rattle.isa_rows.specs.declared.kinds.Kind.TheVariants as kind
use Rattle.isa_rows.specs.declared.operands.Insn.{Insn}
use Rattle.isa_rows.specs.declared.rows.Row.{Row}
use Rattle.isa_rows.specs.declared.rows.Row.TheVariants as row
use Rattle.registers.specs.Registers.{register}
use Rattle.steps.specs.Accesses.{through_rs1}
use Rattle.steps.specs.Looks.{in_capability_mode, next_of, number_in}
use Rattle.steps.specs.MemoryRows.{place_of}
use Rattle.steps.specs.State.{State, pc_of}
use Rattle.steps.specs.Step.{insn_fetched, step_effect, step_fetched}
use Rattle.steps.specs.declared.effect.Effect.{Effect}
use Rattle.steps.specs.declared.effect.Effect.TheVariants.{Trap, Write, Unseal, Store, StoreCapability, DeviceLoad}
use Rattle.steps.specs.declared.effect.Effect.TheVariants.{Jump, Link, Enter, Special, Csr, Return}
use Rattle.steps.specs.declared.event.Event.{Event}
use Rattle.steps.specs.declared.event.Event.TheVariants.{Step}
use Rattle.special_regs.specs.Mtvec.{mtvec_of}
use Rattle.special_regs.specs.Traps.{entry_address}
use Rattle.tagged_memory.specs.Memory.{touches}
use Rattle.origins.specs.Places.{ddc, mepcc, mtcc, pcc}
use Rattle.origins.specs.declared.making.Making.{Making}
use Rattle.origins.specs.declared.making.Making.TheVariants.{Number, Copied, Cleared, Loaded, Moved, Bounded, BoundedExactly, Restricted}
use Rattle.origins.specs.declared.making.Making.TheVariants.{Flagged, Sealed, Unsealed, SealedEntry, Linked, Opened, Entered, Resumed}

-- ---- registers, by row

-- a row over capabilities that touches neither memory nor special registers and does not jump
unfoldable pub row_making : Row → Insn → State → Making
row_making row.CIncOffsetImm insn s = Moved (place.Register insn.rs1) (sum (number_in s insn.rs1) insn.imm)
row_making row.CSetBoundsImm insn s = Bounded (place.Register insn.rs1) insn.imm
row_making row.CSetBounds insn s = Bounded (place.Register insn.rs1) (number_in s insn.rs2)
row_making row.CSetBoundsExact insn s = BoundedExactly (place.Register insn.rs1) (number_in s insn.rs2)
row_making row.CSeal insn s = Sealed (place.Register insn.rs1) (place.Register insn.rs2)
row_making row.CUnseal insn s = Unsealed (place.Register insn.rs1) (place.Register insn.rs2)
row_making row.CAndPerm insn s = Restricted (place.Register insn.rs1) (perms_in_view (number_in s insn.rs2))
row_making row.CSetFlags insn s = Flagged (place.Register insn.rs1) (number_in s insn.rs2 % 2 == 1)
row_making row.CSetOffset insn s =
    Moved (place.Register insn.rs1) (sum (value_base (register s.registers insn.rs1)) (number_in s insn.rs2))
row_making row.CSetAddr insn s = Moved (place.Register insn.rs1) (number_in s insn.rs2)
row_making row.CIncOffset insn s = Moved (place.Register insn.rs1) (sum (number_in s insn.rs1) (number_in s insn.rs2))
row_making row.CSub insn s = Number
row_making row.CTestSubset insn s = Number
row_making row.CSetEqualExact insn s = Number
row_making row.CGetPerm insn s = Number
row_making row.CGetType insn s = Number
row_making row.CGetBase insn s = Number
row_making row.CGetLen insn s = Number
row_making row.CGetTag insn s = Number
row_making row.CGetSealed insn s = Number
row_making row.CGetOffset insn s = Number
row_making row.CGetFlags insn s = Number
row_making row.Crrl insn s = Number
row_making row.Cram insn s = Number
row_making row.CClearTag insn s = Cleared (place.Register insn.rs1)
row_making row.CGetAddr insn s = Number
row_making row.CSealEntry insn s = SealedEntry (place.Register insn.rs1)
-- CMove, the last row of the kind Capability
row_making _ insn s = Copied (place.Register insn.rs1)

-- the link of a jump within PCC, by the mode
abbrev pub link_making : State → Making
link_making s = if in_capability_mode s then Linked (next_of s) else Number

-- AUIPC, by the mode
abbrev pub auipc_making : Insn → State → Making
auipc_making insn s = if in_capability_mode s then Moved pcc ((pc_of s + insn.imm) % 2 ^ 64) else Number

-- what holds the authority of an access
abbrev pub authority_place : Insn → State → Place
authority_place insn s = if through_rs1 insn.row (in_capability_mode s) then place.Register insn.rs1 else ddc

-- how an instruction makes what it writes into its register
unfoldable pub register_making : Kind → Insn → State → Making
register_making kind.Capability insn s = row_making insn.row insn s
register_making kind.Auipc insn s = auipc_making insn s
register_making kind.Jal insn s = link_making s
register_making kind.Jalr insn s = link_making s
register_making kind.JalrCap insn s = Linked (next_of s)
register_making kind.Invoke insn s = Opened (place.Register insn.rs2)
register_making kind.LoadCapability insn s = Loaded (place_of insn s) (authority_place insn s)
register_making kind.SpecialRw insn s = Copied (place.Special insn.rs2)
register_making _ insn s = Number

-- the register that an effect writes
abbrev pub written_register : Effect CapValue → Option ℕ
written_register (Write w) = Some w.rd
written_register (Unseal w) = Some w.rd
written_register (DeviceLoad l) = Some l.rd
written_register (Link l) = Some l.rd
written_register (Enter e) = Some e.rd
written_register (Special w) = Some w.rd
written_register (Csr w) = Some w.rd
written_register other = None

-- (a write to register 0 is lost)
abbrev pub if_written : ℕ → Option ℕ → Making → Option Making
if_written n (Some rd) making = if n == rd && not (n == 0) then Some making else None
if_written n None making = None

-- ---- special registers, by effect

-- PCC where only its address moves: a write of it where the address leaves its window, so that it loses its tag
abbrev pub pcc_moved : ℕ → State → Option Making
pcc_moved address s = if is_tagged s.scrs.pcc && not (is_tagged (at_address s.scrs.pcc address)) then Some (Moved pcc address) else None

abbrev pub pcc_made : Effect CapValue → Insn → State → Option Making
pcc_made (Enter e) insn s = Some (Entered (place.Register insn.rs1) e.target)
pcc_made (Return sealed) insn s = Some (Resumed mepcc (value_address s.scrs.mepcc / 4 * 4))
pcc_made (Jump target) insn s = pcc_moved target s
pcc_made (Link l) insn s = pcc_moved l.target s
pcc_made other insn s = pcc_moved (next_of s) s

-- mtvec and mepc are views of the addresses of MTCC and MEPCC
abbrev pub view_made : ℕ → ℕ → ℕ → Option Making
view_made n csr value =
    if n == MTCC && csr == MTVEC then Some (Moved mtcc (mtvec_of value))
    else (if n == MEPCC && csr == MEPC then Some (Moved mepcc (value / 4 * 4)) else None)

abbrev pub other_made : ℕ → Effect CapValue → Insn → Option Making
other_made n (Special w) insn = if n == w.number then Some (Copied (place.Register insn.rs1)) else None
other_made n (Csr w) insn = view_made n w.number w.value
other_made n other insn = None

abbrev pub special_made : ℕ → Effect CapValue → Insn → State → Option Making
special_made n effect insn s = if n == PCC then pcc_made effect insn s else other_made n effect insn

-- ---- granules, by effect

abbrev pub granule_made : ℕ → Effect CapValue → Insn → Option Making
granule_made address (Store w) insn = if touches w.address (bytes_of w.size) address then Some Number else None
granule_made address (StoreCapability w) insn = if address == w.address then Some (Copied (place.Register insn.rs2)) else None
granule_made address other insn = None

-- ---- the step

-- what an instruction whose effect is no trap writes at a place
unfoldable pub insn_made : Place → Effect CapValue → Insn → State → Option Making
insn_made (place.Register n) effect insn s = if_written n (written_register effect) (register_making (kind_of insn.row) insn s)
insn_made (place.Special n) effect insn s = special_made n effect insn s
insn_made (place.Granule address) effect insn s = granule_made address effect insn

-- a trap: MEPCC is PCC, and PCC where MTCC says
unfoldable pub trap_made : Place → Fault → State → Option Making
trap_made (place.Special n) fault s =
    if n == PCC then Some (Resumed mtcc (entry_address fault (value_address s.scrs.mtcc)))
    else (if n == MEPCC then Some (Copied pcc) else None)
trap_made other fault s = None

abbrev pub made_by_insn : Place → Effect CapValue → Option Insn → State → Option Making
made_by_insn place effect (Some insn) s = insn_made place effect insn s
made_by_insn place effect None s = None

abbrev pub made_by : Place → Effect CapValue → State → Option Making
made_by place (Trap fault) s = trap_made place fault s
made_by place effect s = made_by_insn place effect (insn_fetched (step_fetched s)) s

-- How the next step makes what it writes at a place; none where it writes nothing there. A machine that is halted writes nothing.
abbrev pub made_unless : Option ℕ → Place → State → Option Making
made_unless None place s = made_by place (step_effect s) s
made_unless (Some number) place s = None

unfoldable pub step_made : Place → State → Option Making
step_made place s = made_unless s.devices.halted place s

-- ticks and bytes write to devices alone
abbrev pub made_at : Place → Event → State → Option Making
made_at place Step s = step_made place s
made_at place other s = None
