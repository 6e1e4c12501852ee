use Rattle.std.proofs.Common.{◌≡◌, ◌<◌, ◌≤◌, ◌+◌, ◌-◌, [], ◌++◌, drop, take, sym, ap, subst, ◌∙◌, arith, rules}
use Rattle.machine.specs.Run.{run_after}
use Rattle.past.specs.Given.{count_of, count_of_one, events_of}
use Rattle.past.specs.Giving.{place_after, some_of}
use Rattle.past.specs.Position.{MayGive}
use Rattle.past.proofs.InTurn.{first_some, one_begun, others_then}
use Rattle.past.proofs.OneByOne.{may_after, may_fewer}
use Rattle.past.proofs.events.PastEvents.give_some.Goals as goal
use Rattle.past.proofs.events.PastEvents.give_some.Goals.{then-self-eq0+in-Some, else-self-eq0}

pub give-requires : goal.give-requires
give-requires g c =
    let i = c.self.inside in
    let f = c.if-self-eq0.self-inside in
    let k = c.min-some.result in
    let may : MayGive (f.left + count_of f.later.now) f.player =
    elim c.if-self-eq0.branch [
      | then-self-eq0+in-Some w ↦
          let none : i.left ≡ 0 = w.if-self-eq0.true in
          let all : i.left + count_of i.later.now ≡ w.count_of_one-self-inside.result + count_of w.in-Some.field-0.later.now =
          omega (arith, none, w.in-Some.ensures.count, w.count_of_one-self-inside.ensures) in
          subst (λ i. MayGive (i.left + count_of i.later.now) i.player) (sym w.self-inside-is)
          (subst (λ n. MayGive n i.player) all c.self.invariant)
      | else-self-eq0 w ↦ subst (λ i. MayGive (i.left + count_of i.later.now) i.player) (sym w.self-inside-is) c.self.invariant
    ] in
    let few : k ≤ f.left = omega (arith, c.min-some.ensures) in
    (search rules, may_fewer k (f.left + count_of f.later.now) f.player (omega (arith, few)) may)

pub invariant_of-self : goal.invariant_of-self
invariant_of-self g c =
    let i = c.self.inside in
    let f = c.if-self-eq0.self-inside in
    let k = c.min-some.result in
    let may : MayGive (f.left + count_of f.later.now) f.player =
    elim c.if-self-eq0.branch [
      | then-self-eq0+in-Some w ↦
          let none : i.left ≡ 0 = w.if-self-eq0.true in
          let all : i.left + count_of i.later.now ≡ w.count_of_one-self-inside.result + count_of w.in-Some.field-0.later.now =
          omega (arith, none, w.in-Some.ensures.count, w.count_of_one-self-inside.ensures) in
          subst (λ i. MayGive (i.left + count_of i.later.now) i.player) (sym w.self-inside-is)
          (subst (λ n. MayGive n i.player) all c.self.invariant)
      | else-self-eq0 w ↦ subst (λ i. MayGive (i.left + count_of i.later.now) i.player) (sym w.self-inside-is) c.self.invariant
    ] in
    let few : k ≤ f.left = omega (arith, c.min-some.ensures) in
    let less : f.left + count_of f.later.now - k ≡ f.left - k + count_of f.later.now = omega (arith, few) in
    subst (MayGive (f.left - k + count_of f.later.now)) (sym c.give.ensures.position)
    (subst (λ n. MayGive n (place_after k f.given f.player)) less
    (may_after k (f.left + count_of f.later.now) f.given f.player (omega (arith, few)) may))

pub returns-clause-events : goal.returns-clause-events
returns-clause-events g c =
    let i = c.self.inside in
    let f = c.if-self-eq0.self-inside in
    let k = c.min-some.result in
    let few : k ≤ f.left = omega (arith, c.min-some.ensures) in
    let same : c.args.self.now ≡ some_of f.left f.given f.player ++ events_of f.later.now (place_after f.left f.given f.player) =
    elim c.if-self-eq0.branch [
      | then-self-eq0+in-Some w ↦
          let g = w.in-Some.field-0.given in
          let later = w.in-Some.field-0.later.now in
          sym c.self.view_is
          ∙ ap (λ n. some_of n i.given i.player ++ events_of i.later.now (place_after n i.given i.player)) w.if-self-eq0.true
          ∙ w.in-Some.ensures.events i.player
          ∙ one_begun g later i.player
          ∙ ap (λ n. some_of n g i.player ++ events_of later (place_after n g i.player)) (sym w.count_of_one-self-inside.ensures)
          ∙ sym (ap (λ i. some_of i.left i.given i.player ++ events_of i.later.now (place_after i.left i.given i.player)) w.self-inside-is)
      | else-self-eq0 w ↦
          sym c.self.view_is
          ∙ sym (ap (λ i. some_of i.left i.given i.player ++ events_of i.later.now (place_after i.left i.given i.player)) w.self-inside-is)
    ] in
    ap (λ p. some_of (f.left - k) f.given p ++ events_of f.later.now (place_after (f.left - k) f.given p)) c.give.ensures.position
    ∙ sym (ap (drop k) same ∙ others_then k f.left f.given f.later.now f.player few)

pub returns-clause-state : goal.returns-clause-state
returns-clause-state g c =
    let i = c.self.inside in
    let f = c.if-self-eq0.self-inside in
    let k = c.min-some.result in
    let few : k ≤ f.left = omega (arith, c.min-some.ensures) in
    let same : c.args.self.now ≡ some_of f.left f.given f.player ++ events_of f.later.now (place_after f.left f.given f.player) =
    elim c.if-self-eq0.branch [
      | then-self-eq0+in-Some w ↦
          let g = w.in-Some.field-0.given in
          let later = w.in-Some.field-0.later.now in
          sym c.self.view_is
          ∙ ap (λ n. some_of n i.given i.player ++ events_of i.later.now (place_after n i.given i.player)) w.if-self-eq0.true
          ∙ w.in-Some.ensures.events i.player
          ∙ one_begun g later i.player
          ∙ ap (λ n. some_of n g i.player ++ events_of later (place_after n g i.player)) (sym w.count_of_one-self-inside.ensures)
          ∙ sym (ap (λ i. some_of i.left i.given i.player ++ events_of i.later.now (place_after i.left i.given i.player)) w.self-inside-is)
      | else-self-eq0 w ↦
          sym c.self.view_is
          ∙ sym (ap (λ i. some_of i.left i.given i.player ++ events_of i.later.now (place_after i.left i.given i.player)) w.self-inside-is)
    ] in
    c.give.ensures.state
    ∙ sym (ap (λ es. run_after (take k es) c.args.machine.now) same
    ∙ ap (λ es. run_after es c.args.machine.now) (first_some k f.left f.given f.later.now f.player few))

pub returns-clause-none : goal.returns-clause-none
returns-clause-none g c = λ none.
    let f = c.if-self-eq0.self-inside in
    let some : 0 < f.left =
    elim c.if-self-eq0.branch [
      | then-self-eq0+in-Some w ↦
          omega (arith, ap (λ i. i.left) w.self-inside-is, w.count_of_one-self-inside.ensures, w.in-Some.ensures.some)
      | else-self-eq0 w ↦ grind (arith, ap (λ i. i.left) w.self-inside-is, w.if-self-eq0.false)
    ] in
    absurd (omega (arith, some, none, c.min-some.ensures, c.requires))
