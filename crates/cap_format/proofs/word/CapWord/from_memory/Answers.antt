use Rattle.std.proofs.Common.{rules}
use Rattle.cap_format.proofs.word.CapWord.from_memory.Goals as goal

pub returns : goal.returns
returns c = search rules
