use Rattle.std.proofs.Common.{◌≡◌, ◌-◌, ◌∙◌, sym, ap, subst, arith, length}
use Rattle.steps.specs.Event.{after}
use Rattle.machine.specs.Run.{run_after}
use Rattle.past.specs.Giving.{place_after, place_of, some_of}
use Rattle.origins.proofs.Stays.{length-after}
use Rattle.past.specs.Position.{MayGive}
use Rattle.past.proofs.OneByOne.{one_of_some, one_place, may_after}
use Rattle.past.proofs.giving.give_each.Goals as goal

pub loop-left-preserved : goal.loop-left-preserved
loop-left-preserved g c =
    let l = c.loop-left in
    let given = c.args.given in
    let next = c.next_of.ensures in
    let more = some_of (l.left - 1) given in
    record {
      state = ap (λ p. run_after (more p) c.event.new.self) next.position
          ∙ ap (run_after (more (place_of given l.player))) (c.event.ensures.state ∙ ap (λ e. after e l.machine) next.event)
          ∙ sym (ap (λ es. run_after es l.machine) (one_of_some l.left given l.player (omega arith))) ∙ l.invariant.state;
      position = ap (place_after (l.left - 1) given) next.position
          ∙ sym (one_place l.left given l.player (omega arith)) ∙ l.invariant.position;
      may = subst (MayGive (l.left - 1)) (sym next.position) (may_after 1 l.left given l.player (omega arith) l.invariant.may);
      size = ap (λ m. length m.memory.bytes) c.event.ensures.state ∙ length-after l.machine c.hart.ensures.state c.next_of.result
          ∙ l.invariant.size;
    }

pub returns-clause-state : goal.returns-clause-state
returns-clause-state g c =
    let none : c.loop-left.left ≡ 0 = omega arith in
    rw none at c.loop-left.invariant.state
