use Rattle.cap_format.specs.WordLaws.{word_of_memory-memory_bytes}
use Rattle.cap_format.proofs.laws.word_to_memory_and_back.Goals as goal

pub returns : goal.returns
returns c = word_of_memory-memory_bytes
