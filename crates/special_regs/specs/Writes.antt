-- What a write of a control and status register or of a special capability register changes (RISC-V privileged manual, machine-level
-- CSRs; UCAM-CL-TR-987 for mtvec and mepc, which are views of MTCC and MEPCC, and for CSpecialRW).
use Rattle.std.specs.Prelude.{ℕ, ◌+◌, ◌*◌, ◌/◌, ◌%◌, ◌^◌, Bool, ◌==◌, if◌then◌else◌, bit_and, List, slice_set, Option, Some, None}
use Rattle.cap_bounds.specs.CapValue.{CapValue}
use Rattle.cap_bounds.specs.SetAddress.{at_address}
use Rattle.base.specs.declared.registers.csr.TheConstants.{MSTATUS, MIE, MTVEC, MEPC, MCAUSE, MTVAL, MCYCLE, MINSTRET}
use Rattle.base.specs.declared.registers.scr.TheConstants.{DDC, MTCC, MTDC, MSCRATCHC, MEPCC}
use Rattle.base.specs.declared.interrupt.TheConstants.{TIMER, EXTERNAL}
use Rattle.special_regs.specs.declared.csrs.Csrs.{Csrs}
use Rattle.special_regs.specs.Csrs.{bits_at, place_of}
use Rattle.special_regs.specs.Scrs.{Scrs}
use Rattle.special_regs.specs.Mtvec.{mtvec_of}

-- bit k of a number is 1
abbrev pub has_bit : ℕ → ℕ → Bool
has_bit n k = n / 2 ^ k % 2 == 1

-- where MIE and MPIE stand in mstatus
abbrev pub mie_bit : ℕ
mie_bit = 3

abbrev pub mpie_bit : ℕ
mpie_bit = 7

-- the bits of mie that can be written: the timer's and the external interrupt's
abbrev pub interrupt_bits : ℕ
interrupt_bits = 2 ^ TIMER + 2 ^ EXTERNAL

-- what is kept after a write of a number: at the register's place the bits that a write sets, if it sets any
abbrev pub kept_by : Option ℕ → ℕ → ℕ → List ℕ → List ℕ
kept_by (Some bits) place value kept = slice_set kept place (bit_and value bits)
kept_by None place value kept = kept

abbrev pub kept_written : ℕ → ℕ → List ℕ → List ℕ
kept_written n value kept = kept_by (bits_at n) (place_of n) value kept

-- Of mstatus MIE and MPIE are kept, of mie two bits. A write of mip changes nothing.
unfoldable pub csrs_written : ℕ → ℕ → Csrs → Csrs
csrs_written n value c = record c {
  mstatus_mie = if n == MSTATUS then has_bit value mie_bit else c.mstatus_mie;
  mstatus_mpie = if n == MSTATUS then has_bit value mpie_bit else c.mstatus_mpie;
  mie = if n == MIE then bit_and value interrupt_bits else c.mie;
  kept = kept_written n value c.kept;
  mcause = if n == MCAUSE then value else c.mcause;
  mtval = if n == MTVAL then value else c.mtval;
  mcycle = if n == MCYCLE then value else c.mcycle;
  minstret = if n == MINSTRET then value else c.minstret;
}

-- A write of mtvec sets MTCC's address to what it keeps of the number, and one of mepc MEPCC's to the number with its low two bits
-- cleared.
unfoldable pub views_written : ℕ → ℕ → Scrs → Scrs
views_written n value s = record s {
  mtcc = if n == MTVEC then at_address s.mtcc (mtvec_of value) else s.mtcc;
  mepcc = if n == MEPC then at_address s.mepcc (value / 4 * 4) else s.mepcc;
}

-- A special capability register is replaced; PCC never is.
unfoldable pub scr_written : ℕ → CapValue → Scrs → Scrs
scr_written n v s = record s {
  ddc = if n == DDC then v else s.ddc;
  mtcc = if n == MTCC then v else s.mtcc;
  mtdc = if n == MTDC then v else s.mtdc;
  mscratchc = if n == MSCRATCHC then v else s.mscratchc;
  mepcc = if n == MEPCC then v else s.mepcc;
}

-- the same where there is a new value; else nothing changes
abbrev pub scr_written_if : ℕ → Option CapValue → Scrs → Scrs
scr_written_if n (Some v) s = scr_written n v s
scr_written_if n None s = s
