use Rattle.std.proofs.Common.{rules}
use Rattle.cap_rights.proofs.otype.OType.is_reserved.Goals as goal

pub returns : goal.returns
returns c = search rules
