use Rattle.std.proofs.Common.{arith, rules}
use Rattle.std.proofs.lemmas.Grind.{common_steps}
use Rattle.debugger.proofs.run.told_at.Goals as goal

pub returns-in_err-text-clause-same : goal.returns-in_err-text-clause-same
returns-in_err-text-clause-same g c = grind arith

pub returns-clause-text : goal.returns-clause-text
returns-clause-text g c = grind (arith, common_steps)

pub returns-clause-state : goal.returns-clause-state
returns-clause-state g c = search rules
