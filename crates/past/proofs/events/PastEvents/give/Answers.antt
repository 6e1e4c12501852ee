use Rattle.std.proofs.Common.{◌≡◌, ℕ, ◌≤◌, ◌+◌, ◌-◌, List, [], drop, take, refl, sym, ap, ◌∙◌, arith}
use Rattle.steps.specs.declared.event.Event.{Event}
use Rattle.machine.specs.Run.{run_after}
use Rattle.past.proofs.InTurn.{all_dropped, all_taken, drop_on, run_on}
use Rattle.past.proofs.events.PastEvents.give.Goals as goal

pub loop-left-init : goal.loop-left-init
loop-left-init g c =
    let none : c.args.n - c.args.n ≡ 0 = omega arith in
    record {
      few = omega arith;
      events = ap (λ k. drop k c.args.self.now) (sym none);
      state = ap (λ k. run_after (take k c.args.self.now) c.args.machine.now) (sym none);
      size = refl;
    }

pub loop-left-preserved : goal.loop-left-preserved
loop-left-preserved g c =
    let l = c.loop-left in
    let k = c.give_some-given.result in
    let given = c.give_some-given.ensures in
    let more : c.args.n - l.left + k ≡ c.args.n - (l.left - k) = omega (arith, given.few, l.invariant.few) in
    record {
      few = omega (arith, l.invariant.few);
      events = given.events ∙ ap (drop k) l.invariant.events ∙ drop_on (c.args.n - l.left) k c.args.self.now
          ∙ ap (λ j. drop j c.args.self.now) more;
      state = given.state ∙ ap (λ es. run_after (take k es) l.machine) l.invariant.events
          ∙ ap (run_after (take k (drop (c.args.n - l.left) c.args.self.now))) l.invariant.state
          ∙ run_on (c.args.n - l.left) k (c.args.n - (l.left - k)) c.args.self.now c.args.machine.now more;
      size = given.size ∙ l.invariant.size;
    }

pub returns-then-given-eq0-clause-events : goal.returns-then-given-eq0-clause-events
returns-then-given-eq0-clause-events g c =
    let l = c.loop-left in
    let given = c.give_some-given.ensures in
    let none : l.self ≡ [] = given.none c.if-given-eq0.true in
    given.events ∙ ap (λ j. drop j l.self) c.if-given-eq0.true ∙ none
    ∙ sym (all_dropped (c.args.n - l.left) c.args.n c.args.self.now (omega arith) (sym l.invariant.events ∙ none))

pub returns-then-given-eq0-clause-state : goal.returns-then-given-eq0-clause-state
returns-then-given-eq0-clause-state g c =
    let l = c.loop-left in
    let given = c.give_some-given.ensures in
    given.state ∙ ap (λ j. run_after (take j l.self) l.machine) c.if-given-eq0.true ∙ l.invariant.state
    ∙ ap (λ es. run_after es c.args.machine.now)
    (all_taken (c.args.n - l.left) c.args.n c.args.self.now (omega arith) (sym l.invariant.events ∙ given.none c.if-given-eq0.true))

pub returns-clause-events : goal.returns-clause-events
returns-clause-events g c =
    let l = c.loop-left in
    let all : c.args.n - l.left ≡ c.args.n = omega (arith, c.loop-left-test.false) in
    l.invariant.events ∙ ap (λ j. drop j c.args.self.now) all

pub returns-clause-state : goal.returns-clause-state
returns-clause-state g c =
    let l = c.loop-left in
    let all : c.args.n - l.left ≡ c.args.n = omega (arith, c.loop-left-test.false) in
    l.invariant.state ∙ ap (λ j. run_after (take j c.args.self.now) c.args.machine.now) all
