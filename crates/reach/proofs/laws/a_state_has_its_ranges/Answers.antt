use Rattle.reach.proofs.Determined.{same-ranges}
use Rattle.reach.proofs.laws.a_state_has_its_ranges.Goals as goal

pub returns : goal.returns
returns c = same-ranges
