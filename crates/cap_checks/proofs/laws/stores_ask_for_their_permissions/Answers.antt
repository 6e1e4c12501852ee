use Rattle.cap_checks.specs.StoreLaws.{stored-capability, stored-local}
use Rattle.cap_checks.proofs.laws.stores_ask_for_their_permissions.Goals as goal

pub returns-clause-capability : goal.returns-clause-capability
returns-clause-capability c = stored-capability

pub returns-clause-local : goal.returns-clause-local
returns-clause-local c = stored-local
