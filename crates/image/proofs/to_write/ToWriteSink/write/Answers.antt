use Rattle.std.proofs.Common.{rules}
use Rattle.image.proofs.to_write.ToWriteSink.write.Goals as goal

pub returns-clause-some : goal.returns-clause-some
returns-clause-some g c = search rules
