use Rattle.std.proofs.Common.{refl}
use Rattle.cap_checks.specs.FirstFault.{jump_target}
use Rattle.cap_checks.proofs.jumps.jump_target.Goals as goal

pub returns : goal.returns
unfolding jump_target
returns c = refl
