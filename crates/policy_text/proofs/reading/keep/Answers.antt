use Rattle.std.proofs.Common.{◌≡◌, length, refl, arith}
use Rattle.policy.specs.Terms.{terms}
use Rattle.policy_text.proofs.Kept.{zip_one_more}
use Rattle.policy_text.proofs.reading.keep.Goals as goal

pub returns-in_ok-push-in-Rule-2-clause-said : goal.returns-in_ok-push-in-Rule-2-clause-said
returns-in_ok-push-in-Rule-2-clause-said c =
    let rules = c.args.policy.now.rules in
    let lines = c.args.policy.now.lines in
    let paired : length rules.items ≡ length lines.items = omega (arith, c.requires, rules.ok.0, lines.ok.0) in
    let kept = zip_one_more terms lines.items rules.items c.args.number c.in-Rule.rule paired in
    rw (c.in-Rule.is, c.in_ok-push-in-Rule.ensures.items, c.in_ok-push-in-Rule-2.ensures.items, kept) refl
