use Rattle.std.proofs.Common.{length}
use Rattle.debugger.proofs.state.+append_scrs_of.Given as goal

abbrev pub decreases-append_scrs_of : goal.decreases-append_scrs_of
decreases-append_scrs_of g l = length l.registers.now
