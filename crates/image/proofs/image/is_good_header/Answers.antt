use Rattle.std.proofs.Common.{rules}
use Rattle.image.specs.Image.{is_good_header}
use Rattle.image.proofs.image.is_good_header.Goals as goal

pub returns-then-entry-end : goal.returns-then-entry-end
unfolding is_good_header
returns-then-entry-end c = search rules

pub returns-else-entry-end : goal.returns-else-entry-end
unfolding is_good_header
returns-else-entry-end c = search rules
