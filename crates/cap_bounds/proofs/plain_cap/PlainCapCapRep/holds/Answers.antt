use Rattle.std.proofs.Common.{rules}
use Rattle.cap_bounds.proofs.plain_cap.PlainCapCapRep.holds.Goals as goal

pub returns-then-base-address : goal.returns-then-base-address
returns-then-base-address c = search rules
