use Rattle.std.proofs.Common.{◌-◌}
use Rattle.debugger.proofs.state.+append_registers.Given as goal

abbrev pub decreases-append_registers : goal.decreases-append_registers
decreases-append_registers g l = 32 - l.n
