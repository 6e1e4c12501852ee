use Rattle.std.proofs.Common.{length}
use Rattle.debugger.proofs.marks.+mark_all.Given as goal

abbrev pub decreases-mark_all : goal.decreases-mark_all
decreases-mark_all g l = length l.stops.now
