use Rattle.std.proofs.Common.{rules}
use Rattle.cap_bounds.proofs.plain_cap.PlainCap.of.Goals as goal

pub returns-then-top-power-clause-some : goal.returns-then-top-power-clause-some
returns-then-top-power-clause-some c = search rules
