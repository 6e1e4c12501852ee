use Rattle.std.proofs.Common.{◌≡◌, ◌-◌, ◌∷◌, ◌++◌, ◌∙◌, sym, ap, subst, arith}
use Rattle.steps.specs.Event.{after}
use Rattle.machine.specs.Run.{run_after}
use Rattle.past.specs.Giving.{place_after, place_of, some_of}
use Rattle.past.specs.Position.{MayGive}
use Rattle.past.specs.Seeking.{found_by}
use Rattle.past.proofs.OneByOne.{one_of_some, one_place, may_after}
use Rattle.past.proofs.Seeks.{found_on}
use Rattle.past.proofs.seeking.meet_some.Goals as goal

pub loop-left-preserved : goal.loop-left-preserved
loop-left-preserved g c =
    let l = c.loop-left in
    let given = c.args.given in
    let next = c.next_of.ensures in
    let met = c.meet.ensures in
    let more = some_of (l.left - 1) given in
    let now = place_of given l.player in
    record {
      state = ap (λ p. run_after (more p) c.meet.new.machine) next.position
          ∙ ap (run_after (more now)) (met.state ∙ ap (λ e. after e l.machine) next.event)
          ∙ sym (ap (λ es. run_after es l.machine) (one_of_some l.left given l.player (omega arith))) ∙ l.invariant.state;
      found = λ later. ap (λ p. found_by c.meet.new.self (more p ++ later) c.meet.new.machine) next.position
          ∙ found_on l.search c.meet.new.self c.next_of.result (more now ++ later) l.machine
          c.meet.new.machine met.state met.before met.found
          met.sought met.place
          ∙ ap (λ e. found_by l.search (e ∷ (more now ++ later)) l.machine) next.event
          ∙ sym (ap (λ es. found_by l.search (es ++ later) l.machine) (one_of_some l.left given l.player (omega arith)))
          ∙ l.invariant.found later;
      position = ap (place_after (l.left - 1) given) next.position
          ∙ sym (one_place l.left given l.player (omega arith)) ∙ l.invariant.position;
      may = subst (MayGive (l.left - 1)) (sym next.position) (may_after 1 l.left given l.player (omega arith) l.invariant.may);
      there = met.there;
      before = omega (arith, met.before, l.invariant.before);
    }

pub returns-clause-state : goal.returns-clause-state
returns-clause-state g c =
    let none : c.loop-left.left ≡ 0 = omega arith in
    rw none at c.loop-left.invariant.state

pub returns-clause-found : goal.returns-clause-found
returns-clause-found g c =
    let none : c.loop-left.left ≡ 0 = omega arith in
    rw none at c.loop-left.invariant.found
