use Rattle.text_laws.proofs.WordWindows.{words_stay}
use Rattle.text_laws.proofs.bounds.words_stay_from_first_to_last.Goals as goal

pub returns : goal.returns
returns c = words_stay
