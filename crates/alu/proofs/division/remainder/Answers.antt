use Rattle.std.proofs.Common.{arith}
use Rattle.std.proofs.lemmas.Int.{ints, to_z-of_z}
use Rattle.alu.specs.Integer.{remainder}
use Rattle.alu.proofs.division.remainder.Goals as goal

pub nonzero_rem-cast_signed : goal.nonzero_rem-cast_signed
nonzero_rem-cast_signed c = grind (arith, ints)

pub returns-then-b-eq0 : goal.returns-then-b-eq0
unfolding remainder
returns-then-b-eq0 c = grind arith

pub returns-then-b-eq18446744073709551615 : goal.returns-then-b-eq18446744073709551615
unfolding remainder
returns-then-b-eq18446744073709551615 c = grind arith

pub returns-else-a : goal.returns-else-a
unfolding remainder
returns-else-a c = grind (arith, to_z-of_z)
