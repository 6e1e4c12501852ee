use Rattle.std.proofs.Common.{rules}
use Rattle.tagged_memory.proofs.bytes.read_number.Goals as goal

pub returns-in-Word-clause-value : goal.returns-in-Word-clause-value
returns-in-Word-clause-value c = search rules
