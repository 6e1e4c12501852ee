use Rattle.std.proofs.Common.{rules}
use Rattle.special_regs.specs.Writes.{scr_written}
use Rattle.special_regs.proofs.scrs.Scrs.set.Goals as goal

pub returns-in-29 : goal.returns-in-29
unfolding scr_written
returns-in-29 g c = search rules
