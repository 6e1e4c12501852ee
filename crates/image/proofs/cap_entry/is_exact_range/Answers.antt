use Rattle.std.proofs.Common.{rules}
use Rattle.image.specs.Image.{is_exact_range}
use Rattle.image.proofs.cap_entry.is_exact_range.Goals as goal

pub returns-else-from : goal.returns-else-from
unfolding is_exact_range
returns-else-from c = search rules
