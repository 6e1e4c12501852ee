use Rattle.std.proofs.Common.{rules}
use Rattle.cap_format.proofs.word.CapWord.perms.Goals as goal

pub returns : goal.returns
returns c = search rules
