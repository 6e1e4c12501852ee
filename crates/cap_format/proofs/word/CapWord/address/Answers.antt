use Rattle.std.proofs.Common.{rules}
use Rattle.cap_format.proofs.word.CapWord.address.Goals as goal

pub returns : goal.returns
returns c = search rules
