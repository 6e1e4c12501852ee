use Rattle.std.proofs.Common.{length}
use Rattle.debugger.proofs.marks.+is_any_stop.Given as goal

abbrev pub decreases-is_any_stop : goal.decreases-is_any_stop
decreases-is_any_stop g l = length l.marks.now
