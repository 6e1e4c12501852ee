use Rattle.std.proofs.Common.{rules}
use Rattle.cap_rights.specs.Perms.{hardware_view}
use Rattle.cap_rights.proofs.perms.Perms.hardware.Goals as goal

pub returns : goal.returns
unfolding hardware_view
returns c = search rules
