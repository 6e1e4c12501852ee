use Rattle.std.proofs.Common.{length}
use Rattle.command_line.proofs.numbers.+are_numerals.Given as goal

abbrev pub decreases-are_numerals : goal.decreases-are_numerals
decreases-are_numerals l = length l.digits.now
