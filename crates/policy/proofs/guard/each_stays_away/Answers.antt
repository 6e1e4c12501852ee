use Rattle.std.proofs.Common.{ℕ, ◌<◌, length, subst, arith}
use Rattle.std.proofs.lemmas.List.{length-map}
use Rattle.policy.specs.Terms.{terms, terms_of}
use Rattle.policy.specs.Known.{StaysAway}
use Rattle.policy.proofs.Runs.{places-more}
use Rattle.policy.proofs.Termed.{termed-at, termed-below}
use Rattle.policy.proofs.guard.each_stays_away.Goals as goal

pub loop-rule-preserved : goal.loop-rule-preserved
loop-rule-preserved c =
    let below : c.loop-rule.rule-index < length c.args.rules.now = omega arith in
    places-more (StaysAway c.args.at (terms c.args.guard.now)) (terms_of c.args.rules.now) c.loop-rule.rule-index
    (terms c.rule-item.result) (termed-below c.args.rules.now c.loop-rule.rule-index below)
    (termed-at c.args.rules.now c.loop-rule.rule-index c.rule-item.result c.rule-item.is)
    (c.stays_away.ensures c.if-not-stays_away.false) c.loop-rule.invariant

pub returns : goal.returns
returns c = λ _ rule there.
    let k : ℕ = there.0 in
    let inside : k < length (terms_of c.args.rules.now) = there.1 in
    subst (StaysAway c.args.at (terms c.args.guard.now)) there.2
    (c.loop-rule.invariant k (omega (arith, length-map c.args.rules.now terms)) rule)
