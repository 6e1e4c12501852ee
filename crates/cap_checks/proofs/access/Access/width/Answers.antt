use Rattle.std.proofs.Common.{rules}
use Rattle.cap_checks.proofs.access.Access.width.Goals as goal

pub returns-in-LoadCapability-clause-value : goal.returns-in-LoadCapability-clause-value
returns-in-LoadCapability-clause-value c = search rules
