use Rattle.past.proofs.InOrder.{first_events}
use Rattle.past.proofs.laws.first_are_first.Goals as goal

pub returns : goal.returns
returns c = first_events
