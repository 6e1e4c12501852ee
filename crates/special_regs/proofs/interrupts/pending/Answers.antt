use Rattle.std.proofs.Common.{rules}
use Rattle.special_regs.specs.Interrupts.{pending}
use Rattle.special_regs.proofs.interrupts.pending.Goals as goal

pub returns-then-not-csrs : goal.returns-then-not-csrs
unfolding pending
returns-then-not-csrs c = search rules

pub returns-then-is_asked : goal.returns-then-is_asked
unfolding pending
returns-then-is_asked c = search rules

pub returns-then-is_asked-2 : goal.returns-then-is_asked-2
unfolding pending
returns-then-is_asked-2 c = search rules
