use Rattle.std.proofs.Common.{◌+◌, get_or, ap, ◌∙◌, arith}
use Rattle.steps.specs.declared.event.Event.TheVariants.{Step}
use Rattle.machine.proofs.Steps.{BeginWithSteps-more}
use Rattle.machine.proofs.advance.leading_steps.Goals as goal

pub loop-event-preserved : goal.loop-event-preserved
loop-event-preserved c =
    let l = c.loop-event in
    record {
      count = ap (λ n. n + 1) l.invariant.count;
      steps = BeginWithSteps-more l.count c.args.events.now Step
          (omega (arith, l.invariant.count, c.loop-event-test.true)) l.invariant.steps
          (ap (λ n. get_or c.args.events.now n Step) l.invariant.count ∙ c.in-Step.is);
    }
