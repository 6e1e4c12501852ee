use Rattle.std.proofs.Common.{rules}
use Rattle.asm_names.specs.TrapNames.{register_at_fault}
use Rattle.asm_names.proofs.trap_names.register_at_fault.Goals as goal

pub returns-then-number : goal.returns-then-number
unfolding register_at_fault
returns-then-number c = search rules
