use Rattle.hart.specs.OpeningStateLaws.{IsState-opening}
use Rattle.hart.proofs.laws.opening_is_a_state.Goals as goal

pub returns : goal.returns
returns c = IsState-opening
