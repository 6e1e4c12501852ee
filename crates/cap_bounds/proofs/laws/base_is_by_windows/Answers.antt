use Rattle.cap_bounds.specs.BaseLaws.{base_by_windows}
use Rattle.cap_bounds.proofs.laws.base_is_by_windows.Goals as goal

pub returns : goal.returns
returns c = base_by_windows
