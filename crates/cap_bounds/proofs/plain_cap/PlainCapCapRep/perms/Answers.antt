use Rattle.std.proofs.Common.{rules}
use Rattle.cap_bounds.proofs.plain_cap.PlainCapCapRep.perms.Goals as goal

pub returns-in-Untagged : goal.returns-in-Untagged
returns-in-Untagged c = search rules
