use Rattle.std.proofs.Common.{◌≡◌, ◌<◌, ◌-◌, ◌∷◌, ◌++◌, ◌∙◌, sym, ap, ap₂, arith}
use Rattle.past.specs.Given.{events_of}
use Rattle.past.specs.Giving.{place_after, some_of}
use Rattle.past.proofs.InTurn.{next_given, one_begun}
use Rattle.past.proofs.events.PastEvents.next_event.Goals as goal
use Rattle.past.proofs.events.PastEvents.next_event.Goals.{then-self-eq0+in_ok-given, else-self-eq0}

pub returns-clause-some : goal.returns-clause-some
returns-clause-some c =
    let i = c.self.inside in
    let f = c.if-self-eq0.self-inside in
    let some : 0 < f.left =
    elim c.if-self-eq0.branch [
      | then-self-eq0+in_ok-given w ↦
          omega (arith, ap (λ i. i.left) w.self-inside-is, w.count_of_one-self-inside.ensures, w.in_ok-given.ensures.some)
      | else-self-eq0 w ↦ grind (arith, ap (λ i. i.left) w.self-inside-is, w.if-self-eq0.false)
    ] in
    let same : c.args.self.now ≡ some_of f.left f.given f.player ++ events_of f.later.now (place_after f.left f.given f.player) =
    elim c.if-self-eq0.branch [
      | then-self-eq0+in_ok-given w ↦
          let g = w.in_ok-given.field-0.given in
          let later = w.in_ok-given.field-0.later.now in
          sym c.self.view_is
          ∙ ap (λ n. some_of n i.given i.player ++ events_of i.later.now (place_after n i.given i.player)) w.if-self-eq0.true
          ∙ w.in_ok-given.ensures.events i.player
          ∙ one_begun g later i.player
          ∙ ap (λ n. some_of n g i.player ++ events_of later (place_after n g i.player)) (sym w.count_of_one-self-inside.ensures)
          ∙ sym (ap (λ i. some_of i.left i.given i.player ++ events_of i.later.now (place_after i.left i.given i.player)) w.self-inside-is)
      | else-self-eq0 w ↦
          sym c.self.view_is
          ∙ sym (ap (λ i. some_of i.left i.given i.player ++ events_of i.later.now (place_after i.left i.given i.player)) w.self-inside-is)
    ] in
    same ∙ next_given f.left f.given f.later.now f.player some
    ∙ sym (ap₂ (λ e p. e ∷ (some_of (f.left - 1) f.given p ++ events_of f.later.now (place_after (f.left - 1) f.given p)))
    c.next_of.ensures.event c.next_of.ensures.position)
