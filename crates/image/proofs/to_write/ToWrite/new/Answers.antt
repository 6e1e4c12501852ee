use Rattle.std.proofs.Common.{refl}
use Rattle.image.proofs.to_write.ToWrite.new.Goals as goal

pub returns-clause-failed : goal.returns-clause-failed
returns-clause-failed g c = refl
