use Rattle.std.proofs.Common.{rules}
use Rattle.special_regs.proofs.access.csr_conditions.Goals as goal

pub returns : goal.returns
returns g c = search rules
