use Rattle.std.proofs.Common.{length}
use Rattle.debugger.proofs.stops.+append_stops.Given as goal

abbrev pub decreases-append_stops : goal.decreases-append_stops
decreases-append_stops l = length l.stops.now
