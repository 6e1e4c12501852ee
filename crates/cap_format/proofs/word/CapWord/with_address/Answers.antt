use Rattle.std.proofs.Common.{rules}
use Rattle.cap_format.proofs.word.CapWord.with_address.Goals as goal

pub returns : goal.returns
returns c = search rules
