use Rattle.cap_bounds.specs.RecordLaws.{value_of-word_of}
use Rattle.cap_bounds.proofs.laws.values_are_their_words_and_tags.Goals as goal

pub returns : goal.returns
returns c = value_of-word_of
