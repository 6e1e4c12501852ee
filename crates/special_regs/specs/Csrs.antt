-- The control and status registers that hold something of their own (RISC-V privileged manual, machine level).
use Rattle.std.specs.Prelude.{ℕ, ◌+◌, ◌%◌, ◌^◌, ◌==◌, false, Option, Some, None, length, option_and_then, position, replicate, unwrap_or}
use Rattle.base.specs.Registers.{held}
use Rattle.base.specs.declared.registers.Holds.{Holds}
use Rattle.base.specs.declared.registers.Holds.TheVariants.{Written, Fixed, Part}
use Rattle.base.specs.declared.registers.TheConstants.{CSRS}
use Rattle.special_regs.specs.Numbered.{value_at}
use Rattle.special_regs.specs.declared.csrs.Csrs.{Csrs}

-- as they begin
abbrev pub zero_csrs : Csrs
zero_csrs = record {
  mstatus_mie = false;
  mstatus_mpie = false;
  mie = 0;
  kept = replicate (length CSRS) 0;
  mcause = 0;
  mtval = 0;
  mcycle = 0;
  minstret = 0;
}

-- what a register holds, and the place where that is kept: its line in the listing
abbrev pub holds_at : ℕ → Option Holds
holds_at n = value_at n held

abbrev pub place_of : ℕ → ℕ
place_of n = unwrap_or (position (λ r. r.0 == n) CSRS) 0

-- the bits that a write sets, where a register holds what was written last
abbrev pub bits_of : Holds → Option ℕ
bits_of (Written bits) = Some bits
bits_of (Fixed number) = None
bits_of Part = None

abbrev pub bits_at : ℕ → Option ℕ
bits_at n = option_and_then bits_of (holds_at n)

-- one more of a counter, modulo 2 ^ 64
abbrev pub one_more : ℕ → ℕ
one_more n = (n + 1) % 2 ^ 64

-- a step is counted
abbrev pub cycle_counted : Csrs → Csrs
cycle_counted c = record c { mcycle = one_more c.mcycle }

-- an instruction that is done is counted
abbrev pub instruction_counted : Csrs → Csrs
instruction_counted c = record c { minstret = one_more c.minstret }
