use Rattle.std.proofs.Common.{length}
use Rattle.explain.proofs.stages.+append_false.Given as goal

abbrev pub decreases-append_false : goal.decreases-append_false
decreases-append_false g l = length l.conditions.now
