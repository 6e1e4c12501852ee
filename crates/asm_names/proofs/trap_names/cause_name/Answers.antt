use Rattle.std.proofs.Common.{rules}
use Rattle.asm_names.specs.TrapNames.{cause_name}
use Rattle.asm_names.proofs.trap_names.cause_name.Goals as goal

pub returns-in-Some : goal.returns-in-Some
unfolding cause_name
returns-in-Some c = search rules

pub returns-in-None : goal.returns-in-None
unfolding cause_name
returns-in-None c = search rules
