use Rattle.std.proofs.Common.{rules}
use Rattle.base.proofs.cause.CheriCause.number.Goals as goal

pub returns-in-Execute-clause-value : goal.returns-in-Execute-clause-value
returns-in-Execute-clause-value c = search rules
