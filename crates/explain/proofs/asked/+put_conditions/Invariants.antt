use Rattle.std.proofs.Common.{length}
use Rattle.explain.proofs.asked.+put_conditions.Given as goal

abbrev pub decreases-put_conditions : goal.decreases-put_conditions
decreases-put_conditions g l = length l.conditions.now
