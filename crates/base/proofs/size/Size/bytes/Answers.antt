use Rattle.std.proofs.Common.{rules}
use Rattle.base.proofs.size.Size.bytes.Goals as goal

pub returns-in-Half : goal.returns-in-Half
returns-in-Half c = search rules
