use Rattle.cap_bounds.specs.MantissaLaws.{length_mantissa-range}
use Rattle.cap_bounds.proofs.laws.length_mantissa_is_in_range.Goals as goal

pub returns : goal.returns
returns c = length_mantissa-range
