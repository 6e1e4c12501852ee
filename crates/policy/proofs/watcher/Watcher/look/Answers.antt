use Rattle.std.proofs.Common.{◌≡◌, ◌∙◌, ap, length, rules, subst, sym}
use Rattle.std.proofs.lemmas.List.{with_items_is}
use Rattle.std.specs.Vec.{with_items}
use Rattle.policy.specs.Watch.{Applies, HoldEach, fetched_at}
use Rattle.policy.specs.Known.{rules_of}
use Rattle.policy.proofs.Looking.{holds-certain}
use Rattle.policy.proofs.watcher.Watcher.look.Goals as goal

pub each_is_certain-requires : goal.each_is_certain-requires
each_is_certain-requires g c =
    (search rules, ap length c.deref_mut.ensures.value ∙ c.requires.whole.1 ∙ ap length (sym c.rules-rules.ensures))

pub returns-then-not-each_is_certain-clause-knows : goal.returns-then-not-each_is_certain-clause-knows
returns-then-not-each_is_certain-clause-knows g c = λ true_of.
    let w = c.args.self.now in
    let marks = c.each_is_certain.new.certified in
    let left : (with_items w.certified marks).items ≡ marks =
    with_items_is w.certified marks (c.each_is_certain.auto.certified ∙ ap length c.deref_mut.ensures.value ∙ sym w.certified.ok.0) in
    let kept = rw (c.rules-rules.ensures, c.hart-hart.ensures.value, c.deref_mut.ensures.value) at c.each_is_certain.ensures.certified in
    record {
      state = c.hart-hart.ensures.state;
      remembers = record { known = true_of.known; certified = rw left (kept true_of.certified) };
      stands = tt;
    }

pub returns-clause-knows : goal.returns-clause-knows
returns-clause-knows g c = λ true_of.
    let w = c.args.self.now in
    let s = c.args.machine.now in
    let marks = c.each_is_certain.new.certified in
    let left : (with_items w.certified marks).items ≡ marks =
    with_items_is w.certified marks (c.each_is_certain.auto.certified ∙ ap length c.deref_mut.ensures.value ∙ sym w.certified.ok.0) in
    let kept = rw (c.rules-rules.ensures, c.hart-hart.ensures.value, c.deref_mut.ensures.value) at c.each_is_certain.ensures.certified in
    let sure = rw (c.rules-rules.ensures, c.hart-hart.ensures.value, c.deref_mut.ensures.value) at c.each_is_certain.ensures.holds in
    let is : c.fetched_at-at.result ≡ fetched_at s = c.fetched_at-at.ensures ∙ ap fetched_at c.hart-hart.ensures.value in
    let hold : HoldEach (rules_of w) s =
    holds-certain (rules_of w) s c.fetched_at-at.result w.known is true_of.known
    (sure true_of.certified c.if-not-each_is_certain.false) in
    record {
      state = c.hart-hart.ensures.state;
      remembers = record {
        known = λ rule there was. hold rule there (subst (Applies rule) is was.1);
        certified = rw left (kept true_of.certified);
      };
      stands = (rw c.rules-rules.ensures at c.standing_at-self.ensures) s hold is;
    }
