use Rattle.std.proofs.Common.{rules}
use Rattle.special_regs.proofs.scrs.Scrs.mtcc.Goals as goal

pub returns : goal.returns
returns g c = search rules
