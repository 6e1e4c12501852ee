use Rattle.std.proofs.Common.{length}
use Rattle.commands.proofs.assembling.+columns.Given as goal

abbrev pub decreases-columns : goal.decreases-columns
decreases-columns l = length l.bytes.now
