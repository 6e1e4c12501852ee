use Rattle.std.proofs.Common.{refl}
use Rattle.machine.proofs.machine.Machine.new.Goals as goal

pub returns-in-Err-clause-err : goal.returns-in-Err-clause-err
returns-in-Err-clause-err g c = refl
