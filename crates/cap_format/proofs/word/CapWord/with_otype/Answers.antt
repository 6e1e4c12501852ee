use Rattle.std.proofs.Common.{arith}
use Rattle.std.proofs.lemmas.Grind.{common_steps}
use Rattle.cap_format.proofs.word.CapWord.with_otype.Goals as goal

pub returns : goal.returns
returns c = grind (arith, common_steps)
