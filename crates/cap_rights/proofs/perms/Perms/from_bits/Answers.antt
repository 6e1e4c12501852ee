use Rattle.std.proofs.Common.{refl}
use Rattle.cap_rights.proofs.perms.Perms.from_bits.Goals as goal

pub returns : goal.returns
returns c = refl
