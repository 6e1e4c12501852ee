use Rattle.std.proofs.Common.{refl}
use Rattle.special_regs.proofs.csrs.Csrs.count_cycle.Goals as goal

pub returns : goal.returns
returns c = refl
