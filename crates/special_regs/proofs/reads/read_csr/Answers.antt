use Rattle.std.proofs.Common.{rules}
use Rattle.special_regs.proofs.reads.read_csr.Goals as goal

pub returns-clause-allowed : goal.returns-clause-allowed
returns-clause-allowed g c = search rules
