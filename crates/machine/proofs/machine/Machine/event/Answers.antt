use Rattle.std.proofs.Common.{rules}
use Rattle.machine.proofs.machine.Machine.event.Goals as goal

pub returns-clause-byte : goal.returns-clause-byte
returns-clause-byte g c = search rules
