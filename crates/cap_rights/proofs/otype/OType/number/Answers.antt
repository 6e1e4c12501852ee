use Rattle.std.proofs.Common.{rules}
use Rattle.cap_rights.proofs.otype.OType.number.Goals as goal

pub returns-clause-value : goal.returns-clause-value
returns-clause-value c = search rules
