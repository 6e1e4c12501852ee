-- Entering a trap, and leaving it by MRET (RISC-V privileged manual, machine trap handling; UCAM-CL-TR-987, CHERI-RISC-V exception
-- handling).
use Rattle.std.specs.Prelude.{ℕ, ◌+◌, ◌*◌, ◌/◌, ◌%◌, ◌^◌, true, false, Bool, ◌&&◌, ◌==◌, if◌then◌else◌}
use Rattle.base.specs.ObjectType.{sentry_type}
use Rattle.cap_bounds.specs.CapValue.{CapValue, is_tagged, value_otype, value_address}
use Rattle.cap_bounds.specs.SetAddress.{at_address}
use Rattle.cap_rights.specs.Opened.{opened}
use Rattle.base.specs.declared.fault.Fault.{Fault}
use Rattle.special_regs.specs.declared.csrs.Csrs.{Csrs}
use Rattle.special_regs.specs.Scrs.{Scrs}
use Rattle.special_regs.specs.Mtvec.{is_vectored}
use Rattle.special_regs.specs.Writes.{has_bit}

-- a tagged sentry
unfoldable pub is_sentry : CapValue → Bool
is_sentry v = is_tagged v && (value_otype v == sentry_type)

-- a tagged sentry without its seal; any other value as it is
unfoldable pub sentry_opened : CapValue → CapValue
sentry_opened v = if is_sentry v then opened v else v

-- the value with the low two bits of its address cleared, where they are not 0 already
unfoldable pub aligned : CapValue → CapValue
aligned v = if value_address v % 4 == 0 then v else at_address v (value_address v / 4 * 4)

-- where a return goes to from MEPCC
abbrev pub target : CapValue → CapValue
target v = aligned (sentry_opened v)

-- the number of an interrupt, which mcause holds below bit 63; 0 for an exception
abbrev pub vector_of : Fault → ℕ
vector_of f = if has_bit f.mcause 63 then f.mcause % 2 ^ 63 else 0

-- the address at which a trap begins: mtvec's base, and for a vectored interrupt four bytes a number after it
unfoldable pub entry_address : Fault → ℕ → ℕ
entry_address f mtvec = (mtvec / 4 * 4 + (if is_vectored mtvec then 4 * vector_of f else 0)) % 2 ^ 64

-- the value at an address; one that is there already stays as it is, sealed too
unfoldable pub placed_at : ℕ → CapValue → CapValue
placed_at address v = if value_address v == address then v else at_address v address

-- where a trap goes to from MTCC: a tagged sentry is unsealed
abbrev pub trap_target : Fault → CapValue → CapValue
trap_target f v = placed_at (entry_address f (value_address v)) (sentry_opened v)

-- MEPCC is PCC at the instruction, and PCC where MTCC says.
abbrev pub trapped_scrs : Fault → Scrs → Scrs
trapped_scrs f s = record s { mepcc = s.pcc; pcc = trap_target f s.mtcc }

-- The cause is kept, and interrupts are off; whether they were on is kept too.
abbrev pub trapped_csrs : Fault → Csrs → Csrs
trapped_csrs f c = record c { mcause = f.mcause; mtval = f.mtval; mstatus_mpie = c.mstatus_mie; mstatus_mie = false }

-- PCC is where MEPCC says.
abbrev pub returned_scrs : Scrs → Scrs
returned_scrs s = record s { pcc = target s.mepcc }

-- Interrupts are on if they were before the trap.
abbrev pub returned_csrs : Csrs → Csrs
returned_csrs c = record c { mstatus_mie = c.mstatus_mpie; mstatus_mpie = true }
