use Rattle.std.proofs.Common.{rules}
use Rattle.cap_rights.specs.Derivations.{may_seal}
use Rattle.cap_rights.proofs.seals.may_seal.Goals as goal

pub returns-then-address_in_bounds : goal.returns-then-address_in_bounds
unfolding may_seal
returns-then-address_in_bounds g c = search rules

pub returns-else-address_in_bounds : goal.returns-else-address_in_bounds
unfolding may_seal
returns-else-address_in_bounds g c = search rules
