use Rattle.std.proofs.Common.{rules}
use Rattle.image.proofs.section.Section.bytes.Goals as goal

pub returns : goal.returns
returns c = search rules
