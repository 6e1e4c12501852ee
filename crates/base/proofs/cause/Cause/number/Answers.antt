use Rattle.std.proofs.Common.{rules}
use Rattle.base.proofs.cause.Cause.number.Goals as goal

pub returns-in-StoreAccess : goal.returns-in-StoreAccess
returns-in-StoreAccess c = search rules
