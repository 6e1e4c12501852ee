use Rattle.std.proofs.Common.{length}
use Rattle.texts.proofs.appended.+append_each.Given as goal

abbrev pub decreases-append_each : goal.decreases-append_each
decreases-append_each g l = length l.pieces.now
