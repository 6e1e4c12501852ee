use Rattle.std.proofs.Common.{◌≡◌, ◌<◌, true, false, length, get_or, sym, ◌∙◌, arith}
use Rattle.std.proofs.lemmas.Bool.{false≢true}
use Rattle.std.proofs.lemmas.List.{length-map}
use Rattle.policy.specs.Terms.{terms, terms_of}
use Rattle.policy.specs.Known.{OutOfReach}
use Rattle.policy.proofs.Certificates.{left-more, looked-more}
use Rattle.policy.proofs.Termed.{termed-at, termed-below}
use Rattle.policy.proofs.guard.keep_out_of_reach.Goals.{then-certified-place, else-certified-place}
use Rattle.policy.proofs.guard.keep_out_of_reach.Goals as goal

pub loop-place-preserved : goal.loop-place-preserved
loop-place-preserved c =
    let l = c.loop-place in
    let P = OutOfReach c.args.at (terms c.args.guard.now) in
    let rule = terms c.index-rules-place.result in
    let there = termed-at c.args.rules.now l.place c.index-rules-place.result c.index-rules-place.is in
    let mark = c.if-certified-place.certified in
    let below : l.place < length (terms_of c.args.rules.now) = termed-below c.args.rules.now l.place (omega arith) in
    let inside : l.place < length l.certified = omega arith in
    let new : mark ≡ true → (get_or l.certified l.place false ≡ true) × P rule =
    elim c.if-certified-place.branch [
      | then-certified-place w ↦ λ yes. (w.if-certified-place.true, w.is_out_of_reach.ensures (sym w.certified-is ∙ yes))
      | else-certified-place w ↦ λ yes. absurd (false≢true (sym w.if-certified-place.false ∙ sym w.certified-is ∙ yes))
    ] in
    record {
      left = left-more P (terms_of c.args.rules.now) l.place rule below there l.certified mark inside c.args.certified.now new
          l.invariant.left;
      looked = looked-more P (terms_of c.args.rules.now) l.place rule below there l.certified mark inside (λ yes. (new yes).1)
          l.invariant.looked;
    }

pub returns : goal.returns
returns c = λ k below marked. (
  c.loop-place.invariant.left k marked,
  c.loop-place.invariant.looked k (omega (arith, length-map c.args.rules.now terms)) marked,
)
