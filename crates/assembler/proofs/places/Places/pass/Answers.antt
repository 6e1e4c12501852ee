use Rattle.std.proofs.Common.{rules}
use Rattle.assembler.proofs.places.Places.pass.Goals as goal

pub returns-clause-value : goal.returns-clause-value
returns-clause-value c = search rules
