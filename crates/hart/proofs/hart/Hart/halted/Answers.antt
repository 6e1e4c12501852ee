use Rattle.std.proofs.Common.{rules}
use Rattle.hart.proofs.hart.Hart.halted.Goals as goal

pub returns-clause-value : goal.returns-clause-value
returns-clause-value g c = search rules
