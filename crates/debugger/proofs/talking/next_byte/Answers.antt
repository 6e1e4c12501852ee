use Rattle.std.proofs.Common.{rules}
use Rattle.debugger.proofs.talking.next_byte.Goals as goal

pub returns-in-Ok-eq0-clause-count : goal.returns-in-Ok-eq0-clause-count
returns-in-Ok-eq0-clause-count g c = search rules
