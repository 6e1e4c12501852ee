use Rattle.std.proofs.Common.{rules}
use Rattle.image.proofs.image.Image.entry.Goals as goal

pub returns-clause-value : goal.returns-clause-value
returns-clause-value c = search rules
