use Rattle.std.proofs.Common.{rules}
use Rattle.machine.proofs.machine.Machine.reg.Goals as goal

pub returns-clause-value : goal.returns-clause-value
returns-clause-value g c = search rules
