use Rattle.std.proofs.Common.{rules, refl}
use Rattle.debugger.proofs.talking.write.Goals as goal

pub returns-in-Err-clause-fault : goal.returns-in-Err-clause-fault
returns-in-Err-clause-fault g c = refl

pub returns-in-Err-clause-count : goal.returns-in-Err-clause-count
returns-in-Err-clause-count g c = search rules
