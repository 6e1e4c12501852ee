use Rattle.std.proofs.Common.{rules}
use Rattle.cap_bounds.proofs.plain_cap.PlainCapCapRep.clear_tag.Goals as goal

pub returns : goal.returns
returns c = search rules
