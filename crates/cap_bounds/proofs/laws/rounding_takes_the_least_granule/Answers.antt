use Rattle.cap_bounds.specs.RoundingLaws.{rounding_exponent-long}
use Rattle.cap_bounds.proofs.laws.rounding_takes_the_least_granule.Goals as goal

pub returns : goal.returns
returns c = rounding_exponent-long
