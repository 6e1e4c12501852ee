use Rattle.std.proofs.Common.{rules}
use Rattle.machine.proofs.machine.Machine.halted.Goals as goal

pub returns-clause-value : goal.returns-clause-value
returns-clause-value g c = search rules

pub returns-clause-state : goal.returns-clause-state
returns-clause-state g c = search rules
