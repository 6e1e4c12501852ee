use Rattle.std.proofs.Common.{rules}
use Rattle.cap_rights.proofs.perms.Perms.of.Goals as goal

pub returns : goal.returns
returns c = search rules
