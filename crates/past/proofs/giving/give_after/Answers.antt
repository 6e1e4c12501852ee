use Rattle.std.proofs.Common.{◌∙◌, ◌≤◌, ◌-◌, List, rules, sym, ap, subst, arith, take}
use Rattle.steps.specs.declared.event.Event.{Event}
use Rattle.machine.specs.Run.{run_after}
use Rattle.schedules.proofs.Events.{run_after-append}
use Rattle.past.specs.Given.{events_of, first_of, position_of}
use Rattle.past.specs.Giving.{place_after, some_of}
use Rattle.past.specs.Position.{MayGive}
use Rattle.past.proofs.InOrder.{walk_events, walk_position}
use Rattle.past.proofs.OneByOne.{may_after}
use Rattle.past.proofs.giving.give_after.Goals as goal

pub give_first-requires : goal.give_first-requires
give_first-requires g c =
    let k = c.min-some.result in
    let few : k ≤ c.args.n = omega (arith, c.min-some.ensures) in (
      search rules,
      subst (MayGive (c.args.n - k)) (sym c.give.ensures.position)
          (may_after k c.args.n c.in-Some.rest.given c.args.player.now few c.requires),
    )

pub returns-in-Some-clause-state : goal.returns-in-Some-clause-state
returns-in-Some-clause-state g c =
    let k = c.min-some.result in
    let n = c.args.n in
    let one = c.in-Some.rest.given in
    let rest = c.in-Some.rest.later.now in
    let p = c.args.player.now in
    let s = c.args.machine.now in
    let least = c.min-some.ensures in
    let counted = c.count_of_one.ensures in
    let left : List Event = take (n - k) (events_of rest (place_after k one p)) in
    let walk = walk_events k n one rest p (omega (arith, least)) (omega (arith, least, counted)) (λ h. omega (arith, least, counted, h))
    (λ h. omega (arith, least, counted, h)) in
    c.give_first.ensures.state
    ∙ ap (λ q. run_after (take (n - k) (events_of rest q)) c.give.new.machine) c.give.ensures.position
    ∙ ap (run_after left) c.give.ensures.state
    ∙ sym (run_after-append (some_of k one p) left s)
    ∙ ap (λ es. run_after es s) (sym walk)
    ∙ ap (λ gs. run_after (take n (events_of gs p)) s) (sym c.in-Some.ensures.some)

pub returns-in-Some-clause-position : goal.returns-in-Some-clause-position
returns-in-Some-clause-position g c =
    let k = c.min-some.result in
    let n = c.args.n in
    let one = c.in-Some.rest.given in
    let rest = c.in-Some.rest.later.now in
    let p = c.args.player.now in
    let least = c.min-some.ensures in
    let counted = c.count_of_one.ensures in
    let walk = walk_position k n one rest p (omega (arith, least)) (omega (arith, least, counted)) (λ h. omega (arith, least, counted, h))
    (λ h. omega (arith, least, counted, h)) in
    c.give_first.ensures.position
    ∙ ap (position_of (first_of (n - k) rest)) c.give.ensures.position
    ∙ sym walk
    ∙ ap (λ gs. position_of (first_of n gs) p) (sym c.in-Some.ensures.some)
