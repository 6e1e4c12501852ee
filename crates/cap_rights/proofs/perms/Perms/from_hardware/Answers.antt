use Rattle.std.proofs.Common.{refl}
use Rattle.cap_rights.specs.Perms.{perms_in_view}
use Rattle.cap_rights.proofs.perms.Perms.from_hardware.Goals as goal

pub returns : goal.returns
unfolding perms_in_view
returns c = refl
