use Rattle.std.proofs.Common.{length}
use Rattle.command_line.proofs.reading.+are_apart.Given as goal

abbrev pub decreases-are_apart : goal.decreases-are_apart
decreases-are_apart l = length l.lines.now
