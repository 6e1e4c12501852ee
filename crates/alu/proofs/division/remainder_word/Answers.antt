use Rattle.std.proofs.Common.{arith}
use Rattle.std.proofs.lemmas.Int.{ints, to_z-of_z}
use Rattle.alu.specs.Integer.{remainder_word}
use Rattle.alu.proofs.division.remainder_word.Goals as goal

pub nonzero_rem-low_signed : goal.nonzero_rem-low_signed
nonzero_rem-low_signed c = grind (arith, ints)

pub returns-then-low-eq0 : goal.returns-then-low-eq0
unfolding remainder_word
returns-then-low-eq0 c = grind arith

pub returns-then-low-eq4294967295 : goal.returns-then-low-eq4294967295
unfolding remainder_word
returns-then-low-eq4294967295 c = grind arith

pub returns-else-low : goal.returns-else-low
unfolding remainder_word
returns-else-low c = search (arith, ints, to_z-of_z, c.bits_of_word.ensures)
