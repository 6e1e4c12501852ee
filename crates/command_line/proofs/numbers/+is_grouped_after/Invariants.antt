use Rattle.std.proofs.Common.{length}
use Rattle.command_line.proofs.numbers.+is_grouped_after.Given as goal

abbrev pub decreases-is_grouped_after : goal.decreases-is_grouped_after
decreases-is_grouped_after l = length l.digits.now
