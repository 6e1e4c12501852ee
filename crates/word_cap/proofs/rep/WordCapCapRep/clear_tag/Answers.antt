use Rattle.std.proofs.Common.{rules}
use Rattle.word_cap.proofs.rep.WordCapCapRep.clear_tag.Goals as goal

pub returns : goal.returns
returns c = search rules
