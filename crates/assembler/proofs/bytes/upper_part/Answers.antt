use Rattle.std.proofs.Common.{rules}
use Rattle.assembler.proofs.bytes.upper_part.Goals as goal

pub returns-clause-low : goal.returns-clause-low
returns-clause-low c = search rules

pub returns-clause-high : goal.returns-clause-high
returns-clause-high c = search rules
