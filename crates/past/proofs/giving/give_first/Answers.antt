use Rattle.std.proofs.Common.{◌≡◌, ◌≤◌, ◌+◌, ◌-◌, ◌∙◌, List, drop, get_or, take, sym, ap, subst, arith}
use Rattle.std.proofs.lemmas.List.{drop_more}
use Rattle.steps.specs.declared.event.Event.{Event}
use Rattle.machine.specs.Run.{run_after}
use Rattle.schedules.proofs.Events.{run_after-append}
use Rattle.past.specs.declared.given.Given.TheVariants.{Steps}
use Rattle.past.specs.Given.{count_of_one, events_of, first_of, position_of}
use Rattle.past.specs.Giving.{place_after, some_of}
use Rattle.past.specs.Position.{MayGive}
use Rattle.past.proofs.OneByOne.{may_after}
use Rattle.past.proofs.InOrder.{walk_events, walk_position}
use Rattle.past.proofs.giving.give_first.Goals as goal

pub loop-given-preserved : goal.loop-given-preserved
loop-given-preserved g c =
    let l = c.loop-given in
    let all = c.args.all.now in
    let one = get_or all l.given-index (Steps 0) in
    let rest = drop (l.given-index + 1) all in
    let k = c.min-some.result in
    let counted = c.count_of_one.ensures in
    let least = c.min-some.ensures in
    let few : k ≤ l.left = omega (arith, least) in
    let some : k ≤ count_of_one one = omega (arith, least, counted) in
    let whole : count_of_one one ≤ l.left → k ≡ count_of_one one = λ h. omega (arith, least, counted, h) in
    let part : l.left ≤ count_of_one one → k ≡ l.left = λ h. omega (arith, least, counted, h) in
    let now = drop_more all l.given-index (Steps 0) c.loop-given-test.true in
    let given = c.give.ensures in
    let left : List Event = take (l.left - k) (events_of rest (place_after k one l.player)) in
    record {
      state = ap (λ p. run_after (take (l.left - k) (events_of rest p)) c.give.new.machine) given.position
          ∙ ap (run_after left) given.state
          ∙ sym (run_after-append (some_of k one l.player) left l.machine)
          ∙ ap (λ es. run_after es l.machine) (sym (walk_events k l.left one rest l.player few some whole part))
          ∙ ap (λ gs. run_after (take l.left (events_of gs l.player)) l.machine) (sym now) ∙ l.invariant.state;
      position = ap (position_of (first_of (l.left - k) rest)) given.position
          ∙ sym (walk_position k l.left one rest l.player few some whole part)
          ∙ ap (λ gs. position_of (first_of l.left gs) l.player) (sym now) ∙ l.invariant.position;
      may = subst (MayGive (l.left - k)) (sym given.position) (may_after k l.left one l.player few l.invariant.may);
      size = given.size ∙ l.invariant.size;
    }
