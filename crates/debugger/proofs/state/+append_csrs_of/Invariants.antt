use Rattle.std.proofs.Common.{length}
use Rattle.debugger.proofs.state.+append_csrs_of.Given as goal

abbrev pub decreases-append_csrs_of : goal.decreases-append_csrs_of
decreases-append_csrs_of g l = length l.registers.now
