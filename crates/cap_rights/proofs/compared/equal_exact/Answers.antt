use Rattle.std.proofs.Common.{rules}
use Rattle.cap_rights.specs.Derivations.{equal_exact}
use Rattle.cap_rights.proofs.compared.equal_exact.Goals as goal

pub returns-then-tag : goal.returns-then-tag
unfolding equal_exact
returns-then-tag g c = search rules
