use Rattle.std.proofs.Common.{◌≡◌, ◌++◌, [], ap, arith, subst}
use Rattle.std.specs.Prelude.{IfSome, Some, option_copied, string_bytes}
use Rattle.hart.specs.Opening.{opening}
use Rattle.origins.specs.Places.{IsThere}
use Rattle.origin_texts.specs.Log.{chain_from}
use Rattle.origin_texts.specs.Origin.{chain_text, history, origin_text}
use Rattle.origin_texts.specs.Put.{IsPut}
use Rattle.origin_texts.proofs.Histories.{at_first}
use Rattle.origin_texts.proofs.origin.put_links.Goals as goal

pub loop-left-init : goal.loop-left-init
unfolding origin_text
loop-left-init g c =
    let past = c.args.past.now in
    let replay = option_copied c.args.replay in
    record {
      there = c.requires.there;
      few = omega (arith, c.count-left.ensures.value);
      put = λ is. record {
        links = [];
        is = is;
        text_is = ap
            (λ n. string_bytes c.args.text.now
            ++ chain_text c.args.symbols.now past replay [] (chain_from (history past replay) (Some c.args.place) n))
            c.count-left.ensures.value;
      };
    }

pub returns-in_default-clause-text : goal.returns-in_default-clause-text
returns-in_default-clause-text g c = λ is.
    let past = c.args.past.now in
    let replay = option_copied c.args.replay in
    let whole = string_bytes c.args.text.now ++ origin_text c.args.symbols.now past replay c.args.place in
    subst (λ o. IsPut c.args.symbols.now past replay (string_bytes c.put_window.new.text) c.put_window.new.stretch
    (chain_from (history past replay) o c.saturating_sub-left.result) whole)
    c.in_default.is (c.in_ok-from.ensures.text whole (c.loop-left.invariant.put is))

pub loop-left-preserved : goal.loop-left-preserved
loop-left-preserved g c =
    let past = c.args.past.now in
    let replay = option_copied c.args.replay in
    let whole = string_bytes c.args.text.now ++ origin_text c.args.symbols.now past replay c.args.place in
    record {
      there = subst (λ o. IfSome o (λ p. IsThere p (opening past.image))) c.in-Some.is c.in_ok-from.ensures.there;
      few = omega (arith, c.saturating_sub-left.ensures, c.loop-left.invariant.few);
      put = λ is. subst (λ o. IsPut c.args.symbols.now past replay (string_bytes c.put_window.new.text) c.put_window.new.stretch
          (chain_from (history past replay) o c.saturating_sub-left.result) whole)
          c.in-Some.is (c.in_ok-from.ensures.text whole (c.loop-left.invariant.put is));
    }

pub returns-clause-text : goal.returns-clause-text
returns-clause-text g c = λ is.
    let past = c.args.past.now in
    let replay = option_copied c.args.replay in
    let l = c.loop-left in
    let none : l.left ≡ 0 = omega (arith, c.loop-left-test.false) in
    subst (λ chain. IsPut c.args.symbols.now past replay (string_bytes l.text) l.stretch chain
    (string_bytes c.args.text.now ++ origin_text c.args.symbols.now past replay c.args.place))
    (at_first past replay l.place l.left none) (l.invariant.put is)
