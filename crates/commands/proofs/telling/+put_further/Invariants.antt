use Rattle.std.proofs.Common.{length}
use Rattle.commands.proofs.telling.+put_further.Given as goal

abbrev pub decreases-put_further : goal.decreases-put_further
decreases-put_further g l = length l.faults.now
