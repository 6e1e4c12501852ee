use Rattle.std.proofs.Common.{rules}
use Rattle.cap_checks.proofs.jumps.target_conditions.Goals as goal

pub returns : goal.returns
returns g c = search rules
