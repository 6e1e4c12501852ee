use Rattle.std.proofs.Common.{rules}
use Rattle.word_cap.proofs.rep.WordCapCapRep.from_word.Goals as goal

pub returns : goal.returns
returns c = search rules
