use Rattle.std.proofs.Common.{refl}
use Rattle.debugger.proofs.run.given_of.Goals as goal

pub returns-in-Ticks : goal.returns-in-Ticks
returns-in-Ticks c = rw c.in-Ticks.is refl
