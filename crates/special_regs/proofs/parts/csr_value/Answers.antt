use Rattle.std.proofs.Common.{rules}
use Rattle.special_regs.specs.CsrValues.{csr_value}
use Rattle.special_regs.proofs.parts.csr_value.Goals as goal

pub returns-in-833 : goal.returns-in-833
unfolding csr_value
returns-in-833 g c = search rules
