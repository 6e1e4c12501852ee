use Rattle.std.proofs.Common.{rules, refl}
use Rattle.image.proofs.from_read.FromReadSource.read.Goals as goal

pub returns-in-Ok-clause-bytes : goal.returns-in-Ok-clause-bytes
returns-in-Ok-clause-bytes g c = search rules

pub returns-clause-bytes : goal.returns-clause-bytes
returns-clause-bytes g c = search rules

pub returns-clause-count : goal.returns-clause-count
returns-clause-count g c = refl
