use Rattle.std.proofs.Common.{◌-◌, sym, ◌∙◌, arith}
use Rattle.std.specs.Prelude.{IsTrue}
use Rattle.cherisim_c.specs.Stepping.{has_bytes}
use Rattle.cherisim_c.proofs.StepsWhile.{going, one_more, one_sent, one_held}
use Rattle.cherisim_c.proofs.stepping.step_while.Goals as goal

pub steps-preserved : goal.steps-preserved
steps-preserved c =
    let l = c.steps in
    let s = c.args.machine.now in
    let bytes = c.args.bytes.now in
    let on = going (c.args.most - l.steps) l.byte c.args.address bytes l.machine (sym c.goes_on.ensures ∙ c.steps-test.true) in
    let event = c.event-byte in
    record {
      few = omega (arith, on.0, l.invariant.few);
      state = one_more l.steps s l.machine l.invariant.state event.new.self event.ensures.state;
      sent = one_sent l.steps s l.machine l.invariant.state l.byte event.result.byte l.invariant.sent on.1 event.ensures.byte;
      held = one_held l.steps s l.machine l.invariant.state (λ t. IsTrue (has_bytes c.args.address bytes t)) l.invariant.held on.2;
    }
