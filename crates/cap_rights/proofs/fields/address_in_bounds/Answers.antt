use Rattle.std.proofs.Common.{rules}
use Rattle.cap_rights.proofs.fields.address_in_bounds.Goals as goal

pub returns-then-base-address : goal.returns-then-base-address
returns-then-base-address g c = search rules
