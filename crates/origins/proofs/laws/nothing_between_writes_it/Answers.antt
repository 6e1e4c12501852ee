use Rattle.origins.proofs.Changes.{none-writes}
use Rattle.origins.proofs.laws.nothing_between_writes_it.Goals as goal

pub returns : goal.returns
returns c = none-writes
