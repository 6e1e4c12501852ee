use Rattle.cap_bounds.specs.RecordLaws.{encoded-well_formed}
use Rattle.cap_bounds.proofs.laws.canonical_words_are_well_formed.Goals as goal

pub returns : goal.returns
returns c = encoded-well_formed
