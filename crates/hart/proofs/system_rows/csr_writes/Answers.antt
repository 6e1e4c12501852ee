use Rattle.std.proofs.Common.{rules}
use Rattle.steps.specs.SystemRows.{csr_writes}
use Rattle.hart.proofs.system_rows.csr_writes.Goals as goal

pub returns-in_default : goal.returns-in_default
unfolding csr_writes
returns-in_default c = search rules
