use Rattle.std.proofs.Common.{length}
use Rattle.command_line.proofs.reading.+lines_named.Given as goal

abbrev pub decreases-lines_named : goal.decreases-lines_named
decreases-lines_named l = length l.rows.now
