use Rattle.std.proofs.Common.{rules}
use Rattle.cap_rights.specs.Derivations.{may_unseal}
use Rattle.cap_rights.proofs.seals.may_unseal.Goals as goal

pub returns-then-address_in_bounds : goal.returns-then-address_in_bounds
unfolding may_unseal
returns-then-address_in_bounds g c = search rules
