use Rattle.std.proofs.Common.{◌-◌, ◌++◌, ◌∙◌, ap, arith}
use Rattle.std.specs.Prelude.{option_to_list, replicate}
use Rattle.debugger.proofs.RunSteps.{state_goes_on, bytes_go_on, one_of_many}
use Rattle.debugger.proofs.run.repeat.Goals as goal

pub loop-left-preserved : goal.loop-left-preserved
loop-left-preserved g c =
    let l = c.loop-left in
    let e = c.args.event in
    let first = one_of_many l.left e (omega arith) in
    record {
      state = state_goes_on (replicate l.left e) e
          (replicate (l.left - 1) e) first l.machine c.event-out.new.self c.event-out.ensures.state _ l.invariant.state;
      bytes = bytes_go_on (replicate l.left e) e
          (replicate (l.left - 1) e) first l.machine c.event-out.new.self c.event-out.ensures.state _ l.sent.items _
          (c.emit.ensures.items ∙ ap (λ b. l.sent.items ++ option_to_list b) c.event-out.ensures.byte) l.invariant.bytes;
      len = omega arith;
      room = omega arith;
    }
