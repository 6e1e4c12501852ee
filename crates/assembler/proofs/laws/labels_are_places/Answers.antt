use Rattle.assembler.proofs.WorthLemmas.{labels-worth}
use Rattle.assembler.proofs.laws.labels_are_places.Goals as goal

pub returns : goal.returns
returns c = labels-worth
