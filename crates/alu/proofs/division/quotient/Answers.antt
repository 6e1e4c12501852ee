use Rattle.std.proofs.Common.{arith}
use Rattle.std.proofs.lemmas.Int.{ints, to_z-of_z}
use Rattle.alu.specs.Integer.{quotient}
use Rattle.alu.proofs.division.quotient.Goals as goal

pub nonzero_div-cast_signed : goal.nonzero_div-cast_signed
nonzero_div-cast_signed c = grind (arith, ints)

pub returns-then-b-eq0 : goal.returns-then-b-eq0
unfolding quotient
returns-then-b-eq0 c = grind arith

pub returns-then-b-eq18446744073709551615 : goal.returns-then-b-eq18446744073709551615
unfolding quotient
returns-then-b-eq18446744073709551615 c = grind arith

pub returns-else-a : goal.returns-else-a
unfolding quotient
returns-else-a c = grind (arith, to_z-of_z)
