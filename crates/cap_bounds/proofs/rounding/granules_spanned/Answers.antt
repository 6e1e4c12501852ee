use Rattle.std.proofs.Common.{rules}
use Rattle.cap_bounds.proofs.rounding.granules_spanned.Goals as goal

pub returns : goal.returns
returns c = search rules
