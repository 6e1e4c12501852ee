use Rattle.std.proofs.Common.{length}
use Rattle.debugger.proofs.marks.+window_at.Given as goal

abbrev pub decreases-window_at : goal.decreases-window_at
decreases-window_at g l = length l.marks.now
