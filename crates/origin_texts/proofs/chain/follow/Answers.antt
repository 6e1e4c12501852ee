use Rattle.std.proofs.Common.{◌≡◌, ◌+◌, ◌-◌, ◌∙◌, sym, arith, subst, get_or, length, refl}
use Rattle.std.specs.Prelude.{None}
use Rattle.origin_texts.specs.Log.{Follows}
use Rattle.origin_texts.proofs.Following.{IsFollowed, all_followed, at_number, linked_on, no_link, none_followed, passed}
use Rattle.origin_texts.proofs.chain.follow.Goals as goal

pub loop-left-init : goal.loop-left-init
loop-left-init c = record {
  within = omega arith;
  followed = λ w from is there low is_log.
      subst (λ l. IsFollowed w from c.args.events c.args.log.now c.args.place l (length c.args.log.now) c.args.place c.args.events)
      (sym c.new-links.ensures.items)
      (none_followed w is from c.args.events c.args.log.now c.args.place (length c.args.log.now) refl there low is_log);
}

pub loop-left-preserved-then-not-is_of : goal.loop-left-preserved-then-not-is_of
loop-left-preserved-then-not-is_of c =
    let l = c.loop-left in
    let one : l.left ≡ l.left - 1 + 1 = omega (arith, c.loop-left-test.true) in
    record {
      within = omega arith;
      followed = λ w from is there low is_log.
          passed w is from c.args.events c.args.log.now is_log c.args.place l.links.items (l.left - 1) no_link l.place l.events
          (omega (arith, c.loop-left-test.true, l.invariant.within))
          (subst (λ n. IsFollowed w from c.args.events c.args.log.now c.args.place l.links.items n l.place l.events) one
          (l.invariant.followed w from is there low is_log))
          (sym c.is_of.ensures ∙ c.if-not-is_of.true);
    }

pub returns-in_default : goal.returns-in_default
returns-in_default c = λ w from is there low is_log.
    let l = c.loop-left in
    let one : l.left ≡ l.left - 1 + 1 = omega (arith, c.loop-left-test.true) in
    subst (λ ls. Follows w from c.args.events c.args.place ls None) (sym c.in_ok-push.ensures.items)
    (at_number w is from c.args.events c.args.log.now is_log c.args.place l.links.items (l.left - 1) no_link l.place l.events
    (omega (arith, c.loop-left-test.true, l.invariant.within))
    (subst (λ n. IsFollowed w from c.args.events c.args.log.now c.args.place l.links.items n l.place l.events) one
    (l.invariant.followed w from is there low is_log))
    (sym c.is_of.ensures ∙ c.if-not-is_of.false)
    (sym c.source.ensures ∙ c.in_default.is))

pub loop-left-preserved : goal.loop-left-preserved
loop-left-preserved c =
    let l = c.loop-left in
    let one : l.left ≡ l.left - 1 + 1 = omega (arith, c.loop-left-test.true) in
    record {
      within = omega arith;
      followed = λ w from is there low is_log.
          subst
          (λ ls. IsFollowed w from c.args.events c.args.log.now c.args.place ls (l.left - 1) c.in-Some.from
          (get_or c.args.log.now (l.left - 1) no_link).found.before)
          (sym c.in_ok-push.ensures.items)
          (linked_on w is from c.args.events c.args.log.now is_log c.args.place l.links.items (l.left - 1) no_link l.place l.events
          (omega (arith, c.loop-left-test.true, l.invariant.within))
          (subst (λ n. IsFollowed w from c.args.events c.args.log.now c.args.place l.links.items n l.place l.events) one
          (l.invariant.followed w from is there low is_log))
          (sym c.is_of.ensures ∙ c.if-not-is_of.false)
          c.in-Some.from (sym c.source.ensures ∙ c.in-Some.is));
    }

pub returns : goal.returns
returns c = λ w from is there low is_log.
    let l = c.loop-left in
    let none : l.left ≡ 0 = omega (arith, c.loop-left-test.false) in
    all_followed w is from c.args.events c.args.log.now c.args.place l.links.items l.place l.events
    (subst (λ n. IsFollowed w from c.args.events c.args.log.now c.args.place l.links.items n l.place l.events) none
    (l.invariant.followed w from is there low is_log))
