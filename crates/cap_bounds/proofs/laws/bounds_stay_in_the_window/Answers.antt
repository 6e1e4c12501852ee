use Rattle.cap_bounds.specs.RecordLaws.{bounds-in_window}
use Rattle.cap_bounds.proofs.laws.bounds_stay_in_the_window.Goals as goal

pub returns : goal.returns
returns c = bounds-in_window
