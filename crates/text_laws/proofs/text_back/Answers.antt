use Rattle.text_laws.proofs.TextBack.{word_again}
use Rattle.text_laws.proofs.text_back.Goals as goal

pub returns : goal.returns
returns c = word_again
