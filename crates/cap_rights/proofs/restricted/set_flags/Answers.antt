use Rattle.std.proofs.Common.{rules}
use Rattle.cap_rights.specs.Derivations.{set_flags}
use Rattle.cap_rights.proofs.restricted.set_flags.Goals as goal

pub returns : goal.returns
unfolding set_flags
returns g c = search rules
