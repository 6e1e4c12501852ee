use Rattle.std.proofs.Common.{sym, ◌∙◌}
use Rattle.schedules.proofs.Steps.{one_running}
use Rattle.schedules.proofs.walking.step.Goals as goal

pub returns-in-Ok-after-clause-went : goal.returns-in-Ok-after-clause-went
returns-in-Ok-after-clause-went g c = record {
  state = c.apply-out.ensures.state;
  running = one_running c.args.machine.now c.requires.running;
  told = c.in-Ok-after.ensures.ok c.args.machine.now c.args.watch.now (c.in-Ok.ensures.ok (sym c.stops.ensures ∙ c.if-stops.false))
      c.apply-out.ensures.state c.apply-out.ensures.byte;
}

pub returns-in-Err-after-clause-went : goal.returns-in-Err-after-clause-went
returns-in-Err-after-clause-went g c = record {
  state = c.apply-out.ensures.state;
  running = one_running c.args.machine.now c.requires.running;
  told = c.in-Err-after.ensures.err c.args.machine.now c.args.watch.now (c.in-Ok.ensures.ok (sym c.stops.ensures ∙ c.if-stops.false))
      c.apply-out.ensures.state c.apply-out.ensures.byte;
}
