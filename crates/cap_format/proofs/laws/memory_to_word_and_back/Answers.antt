use Rattle.cap_format.specs.WordLaws.{memory_bytes-word_of_memory}
use Rattle.cap_format.proofs.laws.memory_to_word_and_back.Goals as goal

pub returns : goal.returns
returns c = memory_bytes-word_of_memory
