use Rattle.std.proofs.Common.{refl}
use Rattle.cap_rights.proofs.otype.OType.named_by.Goals as goal

pub returns : goal.returns
returns c = refl
