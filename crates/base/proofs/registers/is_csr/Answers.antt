use Rattle.std.proofs.Common.{rules}
use Rattle.base.proofs.registers.is_csr.Goals as goal

pub returns : goal.returns
returns c = search rules
