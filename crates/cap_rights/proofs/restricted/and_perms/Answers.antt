use Rattle.std.proofs.Common.{rules}
use Rattle.cap_rights.specs.Derivations.{and_perms}
use Rattle.cap_rights.proofs.restricted.and_perms.Goals as goal

pub returns : goal.returns
unfolding and_perms
returns g c = search rules
