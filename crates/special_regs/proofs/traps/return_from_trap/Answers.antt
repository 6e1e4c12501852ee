use Rattle.std.proofs.Common.{refl}
use Rattle.special_regs.proofs.traps.return_from_trap.Goals as goal

pub returns-clause-csrs : goal.returns-clause-csrs
returns-clause-csrs g c = refl
