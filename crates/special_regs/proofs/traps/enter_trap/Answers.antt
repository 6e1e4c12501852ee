use Rattle.std.proofs.Common.{rules}
use Rattle.special_regs.specs.Writes.{scr_written}
use Rattle.special_regs.proofs.traps.enter_trap.Goals as goal

pub returns-clause-scrs : goal.returns-clause-scrs
unfolding scr_written
returns-clause-scrs g c = search rules
