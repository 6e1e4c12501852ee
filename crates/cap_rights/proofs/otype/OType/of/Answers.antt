use Rattle.std.proofs.Common.{rules}
use Rattle.cap_rights.proofs.otype.OType.of.Goals as goal

pub returns : goal.returns
returns g c = search rules
