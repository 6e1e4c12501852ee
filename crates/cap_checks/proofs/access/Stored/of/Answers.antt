use Rattle.std.proofs.Common.{rules}
use Rattle.cap_checks.proofs.access.Stored.of.Goals as goal

pub returns-then-permits : goal.returns-then-permits
returns-then-permits g c = search rules

pub returns-else-permits : goal.returns-else-permits
returns-else-permits g c = search rules
