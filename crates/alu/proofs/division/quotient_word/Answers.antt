use Rattle.std.proofs.Common.{arith}
use Rattle.std.proofs.lemmas.Int.{ints, to_z-of_z}
use Rattle.alu.specs.Integer.{quotient_word}
use Rattle.alu.proofs.division.quotient_word.Goals as goal

pub nonzero_div-low_signed : goal.nonzero_div-low_signed
nonzero_div-low_signed c = grind (arith, ints)

pub returns-then-low-eq0 : goal.returns-then-low-eq0
unfolding quotient_word
returns-then-low-eq0 c = grind arith

pub returns-then-low-eq4294967295 : goal.returns-then-low-eq4294967295
unfolding quotient_word
returns-then-low-eq4294967295 c = grind arith

pub returns-else-low : goal.returns-else-low
unfolding quotient_word
returns-else-low c = grind (arith, to_z-of_z)
