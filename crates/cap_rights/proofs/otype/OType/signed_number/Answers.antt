use Rattle.std.proofs.Common.{rules}
use Rattle.cap_rights.specs.ObjectType.{signed_type}
use Rattle.cap_rights.proofs.otype.OType.signed_number.Goals as goal

pub returns-then-is_reserved : goal.returns-then-is_reserved
unfolding signed_type
returns-then-is_reserved c = search rules
