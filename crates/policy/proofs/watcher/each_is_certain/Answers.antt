use Rattle.std.proofs.Common.{◌≡◌, ℕ, ◌<◌, ◌⊎◌, inl, inr, true, false, get_or, length, sym, ◌∙◌, subst, arith}
use Rattle.std.proofs.lemmas.Bool.{false≢true}
use Rattle.std.proofs.lemmas.List.{length-map}
use Rattle.policy.specs.Terms.{terms, terms_of}
use Rattle.policy.specs.Watch.{Applies, Holds}
use Rattle.policy.specs.Known.{Applied, AreCertified, IsCertified}
use Rattle.policy.proofs.Certificates.{marked-more}
use Rattle.policy.proofs.Runs.{places-more}
use Rattle.policy.proofs.Termed.{termed-at, termed-below}
use Rattle.policy.proofs.watcher.each_is_certain.Goals.{then-not-applies-via-then-not-applies}
use Rattle.policy.proofs.watcher.each_is_certain.Goals.{then-not-applies-via-else-not-applies+then-applied}
use Rattle.policy.proofs.watcher.each_is_certain.Goals as goal

pub loop-place-preserved-then-not-applies : goal.loop-place-preserved-then-not-applies
loop-place-preserved-then-not-applies g c =
    let l = c.loop-place in
    let s = c.args.hart.now in
    let below : l.place < length c.args.rules.now = omega arith in
    let rule = terms c.index-rules-place.result in
    let was : Applies rule c.args.at → Applied c.args.known rule ⊎ Holds rule s =
    elim c.then-not-applies.branch [
      | then-not-applies-via-then-not-applies w ↦ λ about. absurd (false≢true (sym w.if-not-applies.true ∙ c.applies.ensures.1 about))
      | then-not-applies-via-else-not-applies+then-applied w ↦ λ _. inl (w.applied.ensures.0 w.if-applied.true)
    ] in
    record {
      certified = l.invariant.certified;
      holds = λ were. places-more (λ t. Applies t c.args.at → Applied c.args.known t ⊎ Holds t s) (terms_of c.args.rules.now) l.place
          rule (termed-below c.args.rules.now l.place below)
          (termed-at c.args.rules.now l.place c.index-rules-place.result c.index-rules-place.is) was (l.invariant.holds were);
    }

pub loop-place-preserved : goal.loop-place-preserved
loop-place-preserved g c =
    let l = c.loop-place in
    let s = c.args.hart.now in
    let below : l.place < length c.args.rules.now = omega arith in
    let inside : l.place < length l.certified = omega arith in
    let certain = c.if-not-is_certain.false in
    let rule = terms c.index-rules-place.result in
    let there = termed-below c.args.rules.now l.place below in
    let at = termed-at c.args.rules.now l.place c.index-rules-place.result c.index-rules-place.is in
    let own : AreCertified (terms_of c.args.rules.now) c.args.certified.now s.memory → get_or l.certified l.place false ≡ true
    → IsCertified rule s.memory =
    λ were marked. subst (λ t. IsCertified t s.memory) (sym at) (l.invariant.certified were l.place there marked rule) in
    record {
      certified = λ were. marked-more (λ t. IsCertified t s.memory) (terms_of c.args.rules.now) l.place rule there at l.certified true
          inside (λ _. c.is_certain.ensures.certified (own were) certain) (l.invariant.certified were);
      holds = λ were. places-more (λ t. Applies t c.args.at → Applied c.args.known t ⊎ Holds t s) (terms_of c.args.rules.now) l.place
          rule there at (λ _. inr (c.is_certain.ensures.holds (own were) certain)) (l.invariant.holds were);
    }

pub returns-clause-holds : goal.returns-clause-holds
returns-clause-holds g c = λ were _ rule there about.
    let k : ℕ = there.0 in
    let inside : k < length (terms_of c.args.rules.now) = there.1 in
    subst (λ r. Applies r c.args.at → Applied c.args.known r ⊎ Holds r c.args.hart.now) there.2
    (c.loop-place.invariant.holds were k (omega (arith, length-map c.args.rules.now terms)) rule) about
