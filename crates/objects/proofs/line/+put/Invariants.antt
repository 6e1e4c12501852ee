use Rattle.std.proofs.Common.{length}
use Rattle.objects.proofs.line.+put.Given as goal

abbrev pub decreases-put : goal.decreases-put
decreases-put l = length l.items.now
