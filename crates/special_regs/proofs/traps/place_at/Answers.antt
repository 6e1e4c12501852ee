use Rattle.std.proofs.Common.{rules}
use Rattle.special_regs.specs.Traps.{placed_at}
use Rattle.special_regs.proofs.traps.place_at.Goals as goal

pub returns-then-address : goal.returns-then-address
unfolding placed_at
returns-then-address g c = search rules

pub returns-else-address : goal.returns-else-address
unfolding placed_at
returns-else-address g c = search rules
