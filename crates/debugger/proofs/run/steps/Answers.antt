use Rattle.std.proofs.Common.{◌-◌, ◌++◌, ◌∙◌, ap, sym, append_assoc, arith}
use Rattle.std.specs.Prelude.{replicate}
use Rattle.steps.specs.declared.event.Event.TheVariants.{Step}
use Rattle.machine.specs.Run.{run_after, run_sent}
use Rattle.debugger.proofs.RunSteps.{state_many, bytes_many}
use Rattle.debugger.proofs.run.steps.Goals as goal

pub loop-left-preserved : goal.loop-left-preserved
loop-left-preserved g c =
    let l = c.loop-left in
    let met = c.advance-met in
    let k = met.result.steps in
    let m = met.new.self in
    let rest = run_sent (replicate (l.left - k) Step) in
    record {
      state = ap (run_after (replicate (l.left - k) Step)) met.ensures.state ∙ state_many l.left k l.machine met.ensures.few
          ∙ l.invariant.state;
      bytes = ap (λ bytes. bytes ++ rest m) (c.emit.ensures.items ∙ ap (λ bytes. l.sent.items ++ bytes) (sym met.ensures.bytes))
          ∙ append_assoc l.sent.items (run_sent (replicate k Step) l.machine) (rest m)
          ∙ ap (λ s. l.sent.items ++ (run_sent (replicate k Step) l.machine ++ rest s)) met.ensures.state
          ∙ ap (λ bytes. l.sent.items ++ bytes) (bytes_many l.left k l.machine met.ensures.few) ∙ l.invariant.bytes;
      len = omega (arith, met.ensures.some, met.ensures.few, c.emit.ensures.len, l.invariant.len);
      room = omega (arith, met.ensures.some, met.ensures.few, c.emit.ensures.len, c.emit.ensures.room, l.invariant.room);
    }
