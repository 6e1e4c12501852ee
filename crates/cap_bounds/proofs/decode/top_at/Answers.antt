use Rattle.std.proofs.Common.{rules}
use Rattle.cap_bounds.specs.Window.{decoded_top}
use Rattle.cap_bounds.proofs.decode.top_at.Goals as goal

pub returns-then-e-le50 : goal.returns-then-e-le50
unfolding decoded_top
returns-then-e-le50 c = search rules
