use Rattle.std.proofs.Common.{rules}
use Rattle.special_regs.proofs.interrupts.Interrupt.fault.Goals as goal

pub returns : goal.returns
returns c = search rules
