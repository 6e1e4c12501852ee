use Rattle.std.proofs.Common.{◌≡◌, ◌-◌, sym, ◌∙◌, ap, arith}
use Rattle.std.specs.Prelude.{IsTrue, true}
use Rattle.origins.specs.Places.{held}
use Rattle.cherisim_c.specs.Stepping.{holds}
use Rattle.cherisim_c.proofs.StepsWhile.{going_held, one_more, one_sent, one_held}
use Rattle.cherisim_c.proofs.holding.step_holding.Goals as goal

pub steps-preserved : goal.steps-preserved
steps-preserved g c =
    let l = c.steps in
    let s = c.args.machine.now in
    let place = c.args.place in
    let v = held place s in
    let on = going_held (c.args.most - l.steps) l.byte l.machine (holds place (g.C.CapRep.value c.held-value.result) l.machine)
    (sym c.goes_on.ensures ∙ c.steps-test.true) in
    let holding : holds place v l.machine ≡ true = ap (λ w. holds place w l.machine) (sym l.invariant.value) ∙ on.2 in
    let step = c.step-byte in
    record {
      value = l.invariant.value;
      few = omega (arith, on.0, l.invariant.few);
      state = one_more l.steps s l.machine l.invariant.state step.new.machine step.ensures.state;
      sent = one_sent l.steps s l.machine l.invariant.state l.byte step.result l.invariant.sent on.1 step.ensures.byte;
      held = one_held l.steps s l.machine l.invariant.state (λ t. IsTrue (holds place v t)) l.invariant.held holding;
      there = step.ensures.there;
    }
