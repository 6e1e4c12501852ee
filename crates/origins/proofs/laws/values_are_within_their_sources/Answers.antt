use Rattle.origins.proofs.Rights.{made-within}
use Rattle.origins.proofs.laws.values_are_within_their_sources.Goals as goal

pub returns : goal.returns
returns c = λ s making v is there made. made-within s is making v made
