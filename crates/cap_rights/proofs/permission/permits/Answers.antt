use Rattle.std.proofs.Common.{arith}
use Rattle.std.proofs.lemmas.Grind.{common_steps}
use Rattle.cap_rights.specs.Permission.{permits}
use Rattle.cap_rights.proofs.permission.permits.Goals as goal

pub returns : goal.returns
unfolding permits
returns g c = grind (arith, common_steps)
