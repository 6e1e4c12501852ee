use Rattle.cap_bounds.specs.RecordLaws.{decoded-encoded}
use Rattle.cap_bounds.proofs.laws.one_word_means_its_record.Goals as goal

pub returns : goal.returns
returns c = decoded-encoded
