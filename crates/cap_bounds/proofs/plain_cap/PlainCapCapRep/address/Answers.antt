use Rattle.std.proofs.Common.{rules}
use Rattle.cap_bounds.proofs.plain_cap.PlainCapCapRep.address.Goals as goal

pub returns-in-Tagged : goal.returns-in-Tagged
returns-in-Tagged c = search rules
