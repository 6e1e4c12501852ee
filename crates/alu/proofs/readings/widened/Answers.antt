use Rattle.std.proofs.Common.{arith}
use Rattle.isa_rows.specs.Insn.{sign_extended}
use Rattle.alu.proofs.readings.widened.Goals as goal

pub returns : goal.returns
unfolding sign_extended
returns c = grind arith
