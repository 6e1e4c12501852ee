use Rattle.image.proofs.Format.{one_of}
use Rattle.image.proofs.laws.one_spelling.Goals as goal

pub returns : goal.returns
returns c = one_of
