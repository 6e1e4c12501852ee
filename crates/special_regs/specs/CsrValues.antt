-- What a read of each control and status register gives (RISC-V privileged manual, machine-level CSRs; UCAM-CL-TR-987 for mtvec and
-- mepc, which are views of MTCC and MEPCC).
use Rattle.std.specs.Prelude.{ℕ, ◌+◌, ◌*◌, ◌/◌, ◌^◌, List, [], ◌∷◌, slice_index, Option, option_map}
use Rattle.base.specs.declared.registers.Holds.{Holds}
use Rattle.base.specs.declared.registers.Holds.TheVariants.{Written, Fixed, Part}
use Rattle.base.specs.declared.registers.csr.TheConstants.{MSTATUS, MIE, MTVEC, MEPC, MCAUSE, MTVAL, MIP, MCYCLE, MINSTRET}
use Rattle.std.specs.Option.{option_or}
use Rattle.special_regs.specs.Csrs.{holds_at, place_of}
use Rattle.special_regs.specs.Numbered.{value_at}
use Rattle.base.specs.Bits.{bit}
use Rattle.cap_bounds.specs.CapValue.{value_address}
use Rattle.special_regs.specs.declared.csrs.Csrs.{Csrs}
use Rattle.special_regs.specs.Scrs.{Scrs}
use Rattle.special_regs.specs.Mtvec.{mtvec_of}
use Rattle.special_regs.specs.Writes.{mie_bit, mpie_bit}

-- mstatus: MIE and MPIE at their bits, and bits 12..11 read 3, machine mode
abbrev pub mstatus : Csrs → ℕ
mstatus c = 3 * 2 ^ 11 + bit c.mstatus_mpie * 2 ^ mpie_bit + bit c.mstatus_mie * 2 ^ mie_bit

-- the registers that are parts of the machine, and what a read gives of each; mip is what the devices ask for
abbrev pub csr_values : Csrs → Scrs → ℕ → List (ℕ × ℕ)
csr_values c s mip =
    (MSTATUS, mstatus c)
    ∷ (MIE, c.mie)
    ∷ (MTVEC, mtvec_of (value_address s.mtcc))
    ∷ (MEPC, value_address s.mepcc / 4 * 4)
    ∷ (MCAUSE, c.mcause)
    ∷ (MTVAL, c.mtval)
    ∷ (MIP, mip)
    ∷ (MCYCLE, c.mcycle)
    ∷ (MINSTRET, c.minstret)
    ∷ []

-- what a read gives by a register's line in the listing, where `kept` was written last; the parts of the machine are read above
abbrev pub read_by : Holds → ℕ → ℕ
read_by (Written bits) kept = kept
read_by (Fixed number) kept = number
read_by Part kept = 0

abbrev pub listed_value : Csrs → ℕ → Option ℕ
listed_value c n = option_map (λ holds. read_by holds (slice_index c.kept (place_of n))) (holds_at n)

-- what a read of register n gives, or none where there is no such register
unfoldable pub csr_value : Csrs → Scrs → ℕ → ℕ → Option ℕ
csr_value c s mip n = option_or (value_at n (csr_values c s mip)) (listed_value c n)
