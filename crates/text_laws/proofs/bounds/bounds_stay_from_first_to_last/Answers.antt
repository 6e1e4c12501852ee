use Rattle.bounds_text.proofs.SetBounds.{window_holds-set}
use Rattle.text_laws.proofs.bounds.bounds_stay_from_first_to_last.Goals as goal

pub returns : goal.returns
returns c = window_holds-set
