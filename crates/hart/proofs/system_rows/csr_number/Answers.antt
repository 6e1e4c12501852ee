use Rattle.std.proofs.Common.{rules}
use Rattle.hart.proofs.system_rows.csr_number.Goals as goal

pub returns : goal.returns
returns c = search rules
