use Rattle.std.proofs.Common.{refl}
use Rattle.special_regs.proofs.scrs.Scrs.new.Goals as goal

pub returns-clause-mtcc : goal.returns-clause-mtcc
returns-clause-mtcc g c = refl
