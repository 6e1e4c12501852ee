use Rattle.std.proofs.Common.{rules}
use Rattle.asm_names.specs.Registers.{register_named}
use Rattle.asm_names.proofs.registers.register_named.Goals as goal

pub returns-then-eq-2-clause-value : goal.returns-then-eq-2-clause-value
unfolding register_named
returns-then-eq-2-clause-value c = search rules
