use Rattle.tagged_memory.specs.AccessLaws.{stored_is_loaded}
use Rattle.tagged_memory.proofs.laws.stored_words_are_loaded_again.Goals as goal

pub returns : goal.returns
returns c = stored_is_loaded
