use Rattle.steps.specs.EventLaws.{IsState-after}
use Rattle.hart.proofs.laws.events_keep_a_state.Goals as goal

pub returns : goal.returns
returns c = IsState-after
