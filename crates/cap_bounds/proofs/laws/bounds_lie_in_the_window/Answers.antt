use Rattle.cap_bounds.specs.InsideLaws.{bounds_in_window}
use Rattle.cap_bounds.proofs.laws.bounds_lie_in_the_window.Goals as goal

pub returns : goal.returns
returns c = bounds_in_window
