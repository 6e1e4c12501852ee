use Rattle.past.proofs.InOrder.{length-events_of}
use Rattle.past.proofs.laws.events_are_counted.Goals as goal

pub returns : goal.returns
returns c = length-events_of
