use Rattle.std.proofs.Common.{◌≡◌, ◌<◌, ◌∙◌, ap, length, subst, sym, arith, ⊎_elim}
use Rattle.std.specs.Prelude.{IfSome, IfNone}
use Rattle.std.proofs.lemmas.Bool.{eqb-true, eqb-false}
use Rattle.std.proofs.lemmas.List.{length-map}
use Rattle.std.proofs.lemmas.Result.{err_from_is_err_and}
use Rattle.policy.specs.Terms.{terms, terms_of}
use Rattle.policy.specs.Watch.{HoldEach, IsRefused, fetched_at}
use Rattle.policy.specs.Known.{held_by, rules_of}
use Rattle.policy.proofs.Looking.{refused-in, holds-in}
use Rattle.policy.proofs.watcher.Watcher.refusal.Goals as goal

pub returns-in-Certain-clause-holds : goal.returns-in-Certain-clause-holds
returns-in-Certain-clause-holds g c = λ knows.
    ⊎_elim (λ is. rw is at knows.stands) (λ is. (rw is at knows.stands).0) c.in-Certain.is

pub returns-then-is_empty-clause-holds : goal.returns-then-is_empty-clause-holds
returns-then-is_empty-clause-holds g c = λ _ rule there about.
    let none = eqb-true (length c.rules-rules.result.now) 0 (sym c.is_empty.ensures ∙ c.if-is_empty.true) in
    let below : there.0 < length (rules_of c.args.self.now) = there.1 in
    absurd (omega (arith, below, none, ap length c.rules-rules.ensures, length-map (held_by c.args.self.now.force) terms))

pub returns-clause-refused : goal.returns-clause-refused
returns-clause-refused g c =
    let s = c.args.machine.now in
    let is : c.fetched_at.result ≡ fetched_at s = c.fetched_at.ensures ∙ ap fetched_at c.hart-hart.ensures.value in
    subst (λ rs. IfSome c.first_refused.result (λ x. IsRefused (terms_of rs) x s)) c.rules-rules.ensures
    (refused-in c.hart-hart.result.now s c.hart-hart.ensures.value (terms_of c.rules-rules.result.now) c.fetched_at.result is
    g.C.CapRep.value c.in_ok-reach.reach c.in_ok-reach.ensures.exact c.in_ok-reach.ensures.members c.first_refused.result
    c.first_refused.ensures.some)

pub returns-clause-holds : goal.returns-clause-holds
returns-clause-holds g c = λ _.
    let s = c.args.machine.now in
    let is : c.fetched_at.result ≡ fetched_at s = c.fetched_at.ensures ∙ ap fetched_at c.hart-hart.ensures.value in
    subst (λ rs. IfNone c.first_refused.result (HoldEach (terms_of rs) s)) c.rules-rules.ensures
    (holds-in c.hart-hart.result.now s c.hart-hart.ensures.value (terms_of c.rules-rules.result.now) c.fetched_at.result is
    g.C.CapRep.value c.in_ok-reach.reach c.in_ok-reach.ensures.exact c.first_refused.result c.first_refused.ensures.none)

pub returns-in_err-reach-clause-room : goal.returns-in_err-reach-clause-room
returns-in_err-reach-clause-room g c =
    let some = eqb-false (length c.rules-rules.result.now) 0 (sym c.is_empty.ensures ∙ c.if-is_empty.false) in
    let p = err_from_is_err_and c.from_residual.result c.from_residual.ensures.1 in
    rw p.1
    (omega (arith, some, ap length c.rules-rules.ensures, c.requires.whole.0, length-map c.args.self.now.force.said.now terms))
