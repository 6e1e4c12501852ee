use Rattle.std.proofs.Common.{rules}
use Rattle.special_regs.proofs.traps.leave_trap.Goals as goal

pub returns-clause-scrs : goal.returns-clause-scrs
returns-clause-scrs g c = search rules

pub returns-clause-csrs : goal.returns-clause-csrs
returns-clause-csrs g c = search rules
