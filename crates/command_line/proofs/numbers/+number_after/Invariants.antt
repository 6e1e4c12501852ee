use Rattle.std.proofs.Common.{length}
use Rattle.command_line.proofs.numbers.+number_after.Given as goal

abbrev pub decreases-number_after : goal.decreases-number_after
decreases-number_after l = length l.digits.now
