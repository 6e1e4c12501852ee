use Rattle.std.proofs.Common.{rules}
use Rattle.special_regs.proofs.access.return_conditions.Goals as goal

pub returns : goal.returns
returns g c = search rules
