use Rattle.std.proofs.Common.{arith}
use Rattle.debugger.proofs.RegisterLines.{register_lines_from}
use Rattle.debugger.proofs.state.+append_registers.Goals as goal

pub returns : goal.returns
returns g t c =
    register_lines_from c.args.machine.now c.args.n _ _ _ (omega arith) c.in_ok-append_register.ensures c.in_ok-append_registers.ensures
