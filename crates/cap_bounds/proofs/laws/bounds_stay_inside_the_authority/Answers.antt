use Rattle.cap_bounds.specs.RoundingLaws.{rounded-inside_record}
use Rattle.cap_bounds.proofs.laws.bounds_stay_inside_the_authority.Goals as goal

pub returns : goal.returns
returns c = rounded-inside_record
