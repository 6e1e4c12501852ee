use Rattle.std.proofs.Common.{rules}
use Rattle.cap_bounds.specs.Rounding.{rounding_granule}
use Rattle.cap_bounds.proofs.rounding.granule_of_range.Goals as goal

pub returns-else-top-from-lt4096-clause-value : goal.returns-else-top-from-lt4096-clause-value
unfolding rounding_granule
returns-else-top-from-lt4096-clause-value c = search rules
