use Rattle.std.proofs.Common.{length}
use Rattle.origin_texts.proofs.conditions.+append_conditions.Given as goal

abbrev pub decreases-append_conditions : goal.decreases-append_conditions
decreases-append_conditions g l = length l.conditions.now
