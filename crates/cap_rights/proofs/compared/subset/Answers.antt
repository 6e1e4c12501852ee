use Rattle.std.proofs.Common.{rules}
use Rattle.cap_rights.specs.Derivations.{subset, is_within}
use Rattle.cap_rights.proofs.compared.subset.Goals as goal

pub returns-then-top : goal.returns-then-top
unfolding subset is_within
returns-then-top g c = search rules
