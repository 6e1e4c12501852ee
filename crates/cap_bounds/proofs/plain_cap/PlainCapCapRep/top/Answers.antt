use Rattle.std.proofs.Common.{rules}
use Rattle.cap_bounds.proofs.plain_cap.PlainCapCapRep.top.Goals as goal

pub returns-in-Tagged-clause-value : goal.returns-in-Tagged-clause-value
returns-in-Tagged-clause-value c = search rules
