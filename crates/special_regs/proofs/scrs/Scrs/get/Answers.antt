use Rattle.std.proofs.Common.{rules}
use Rattle.special_regs.specs.Scrs.{scr_value}
use Rattle.special_regs.proofs.scrs.Scrs.get.Goals as goal

pub returns-in-28-clause-value : goal.returns-in-28-clause-value
unfolding scr_value
returns-in-28-clause-value g c = search rules
