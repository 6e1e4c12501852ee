use Rattle.std.proofs.Common.{rules}
use Rattle.debugger.proofs.ReplaySteps.{running}
use Rattle.debugger.proofs.Said.{halted-not-met}
use Rattle.debugger.proofs.stepping.is_before_unfetched.Goals as goal

pub returns-then-is_some : goal.returns-then-is_some
returns-then-is_some g c =
    halted-not-met c.args.machine.now c.halted.result c.is_some.result c.halted.ensures.value c.is_some.ensures c.if-is_some.true _

pub is_any_stop-requires : goal.is_any_stop-requires
is_any_stop-requires g c = (
  search rules,
  (
    c.next-planned.ensures.effect,
    running c.halted.result c.args.machine.now.devices.halted c.is_some.result c.halted.ensures.value c.is_some.ensures c.if-is_some.false,
  ),
)
