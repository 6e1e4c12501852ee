use Rattle.std.proofs.Common.{ℕ, ◌<◌, length, subst, sym, ◌∙◌, arith}
use Rattle.std.proofs.lemmas.Bool.{false≢true}
use Rattle.reached.specs.Links.{values}
use Rattle.reach.specs.First.{HoldsOfNone}
use Rattle.std.proofs.lemmas.List.{length-map}
use Rattle.policy.specs.Terms.{terms, terms_of}
use Rattle.policy.specs.Rule.{BreaksRule}
use Rattle.policy.specs.Watch.{Applies}
use Rattle.policy.proofs.Runs.{places-more}
use Rattle.policy.proofs.Termed.{termed-at, termed-below}
use Rattle.policy.proofs.refused.first_refused.Goals as goal

pub loop-place-preserved-then-not-applies : goal.loop-place-preserved-then-not-applies
loop-place-preserved-then-not-applies g c =
    let vs = values g.C.CapRep.value c.args.reach.now in
    let below : c.loop-place.place < length c.args.rules.now = omega arith in
    places-more (λ rule. Applies rule c.args.at → HoldsOfNone (BreaksRule rule) vs) (terms_of c.args.rules.now) c.loop-place.place
    (terms c.index-rules-place.result) (termed-below c.args.rules.now c.loop-place.place below)
    (termed-at c.args.rules.now c.loop-place.place c.index-rules-place.result c.index-rules-place.is)
    (λ about. absurd (false≢true (sym c.if-not-applies.true ∙ c.applies.ensures.1 about))) c.loop-place.invariant

pub loop-place-preserved : goal.loop-place-preserved
loop-place-preserved g c =
    let vs = values g.C.CapRep.value c.args.reach.now in
    let below : c.loop-place.place < length c.args.rules.now = omega arith in
    places-more (λ rule. Applies rule c.args.at → HoldsOfNone (BreaksRule rule) vs) (terms_of c.args.rules.now) c.loop-place.place
    (terms c.index-rules-place.result) (termed-below c.args.rules.now c.loop-place.place below)
    (termed-at c.args.rules.now c.loop-place.place c.index-rules-place.result c.index-rules-place.is)
    (λ _. c.in_default.ensures.none) c.loop-place.invariant

pub returns-clause-none : goal.returns-clause-none
returns-clause-none g c = λ rule there about.
    let vs = values g.C.CapRep.value c.args.reach.now in
    let k : ℕ = there.0 in
    let inside : k < length (terms_of c.args.rules.now) = there.1 in
    subst (λ r. Applies r c.args.at → HoldsOfNone (BreaksRule r) vs) there.2
    (c.loop-place.invariant k (omega (arith, length-map c.args.rules.now terms)) rule) about
