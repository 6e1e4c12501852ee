-- Which interrupt is taken (RISC-V privileged manual, machine interrupt registers mip and mie).
use Rattle.std.specs.Prelude.{ℕ, ◌+◌, ◌^◌, Bool, ◌&&◌, if◌then◌else◌, Option, Some, None}
use Rattle.base.specs.declared.fault.Fault.{Fault}
use Rattle.base.specs.declared.interrupt.TheConstants.{TIMER, EXTERNAL}
use Rattle.special_regs.specs.declared.csrs.Csrs.{Csrs}
use Rattle.special_regs.specs.declared.interrupts.Interrupt.{Interrupt}
use Rattle.special_regs.specs.declared.interrupts.Interrupt.TheVariants.{External, Timer}
use Rattle.special_regs.specs.Writes.{has_bit}

-- the bit of an interrupt in mie and mip
abbrev pub bit_of : Interrupt → ℕ
bit_of External = EXTERNAL
bit_of Timer = TIMER

-- software enables it, and the devices ask for it
abbrev pub is_asked : Csrs → ℕ → Interrupt → Bool
is_asked c mip interrupt = has_bit c.mie (bit_of interrupt) && has_bit mip (bit_of interrupt)

-- with MIE the external interrupt before the timer's; without it none
unfoldable pub pending : Csrs → ℕ → Option Interrupt
pending c mip =
    if c.mstatus_mie then
    (if is_asked c mip External then Some External
    else (if is_asked c mip Timer then Some Timer else None))
    else None

-- what trap entry keeps of it: bit 63 says that it is an interrupt, and mtval is 0
abbrev pub cause_of : Interrupt → Fault
cause_of interrupt = record { mcause = 2 ^ 63 + bit_of interrupt; mtval = 0 }
