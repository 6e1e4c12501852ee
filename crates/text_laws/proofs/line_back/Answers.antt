use Rattle.text_laws.proofs.LineBack.{reads_back}
use Rattle.text_laws.proofs.line_back.Goals as goal

pub returns : goal.returns
returns c = reads_back
