use Rattle.std.proofs.Common.{refl}
use Rattle.cap_rights.proofs.perms.Perms.bits.Goals as goal

pub returns-clause-value : goal.returns-clause-value
returns-clause-value c = refl
