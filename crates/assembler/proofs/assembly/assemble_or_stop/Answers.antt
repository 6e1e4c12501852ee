use Rattle.std.proofs.Common.{rules}
use Rattle.assembler.proofs.assembly.assemble_or_stop.Goals as goal

pub returns-clause-symbols : goal.returns-clause-symbols
returns-clause-symbols c = search rules
