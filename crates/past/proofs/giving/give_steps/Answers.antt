use Rattle.std.proofs.Common.{◌-◌, ◌≡◌, ◌∙◌, ap, arith, length}
use Rattle.std.specs.Prelude.{replicate}
use Rattle.steps.specs.declared.event.Event.TheVariants.{Step}
use Rattle.machine.specs.Run.{run_after}
use Rattle.past.proofs.Stay.{steps-size}
use Rattle.past.proofs.OneByOne.{state_many}
use Rattle.past.proofs.giving.give_steps.Goals as goal

pub loop-left-preserved : goal.loop-left-preserved
loop-left-preserved g c =
    let l = c.loop-left in
    let met = c.advance-left in
    let k = met.result.steps in
    record {
      state = ap (run_after (replicate (l.left - k) Step)) met.ensures.state ∙ state_many l.left k l.machine met.ensures.few
          ∙ l.invariant.state;
      size = ap (λ m. length m.memory.bytes) met.ensures.state ∙ steps-size k l.machine l.invariant.is_state ∙ l.invariant.size;
      is_state = met.ensures.is_state;
    }

pub returns-clause-state : goal.returns-clause-state
returns-clause-state g c =
    let none : c.loop-left.left ≡ 0 = omega arith in
    rw none at c.loop-left.invariant.state
