use Rattle.std.proofs.Common.{ℕ, ◌+◌, ◌<◌, length, get_or, sym, subst, arith}
use Rattle.std.proofs.lemmas.List.{get_or_default}
use Rattle.std.specs.List.{HoldsAt}
use Rattle.reach.specs.declared.range.Range.{Range}
use Rattle.policy.specs.Terms.{terms}
use Rattle.policy.proofs.Certificates.{RangeKeeps, certified-by}
use Rattle.policy.proofs.Runs.{places-more}
use Rattle.policy.proofs.certificate.certifies.Goals as goal

pub loop-range-preserved : goal.loop-range-preserved
loop-range-preserved g c =
    let P = RangeKeeps (terms c.args.rule.now) c.args.memory.now in
    let ranges = c.deref-range-items.result.now in
    let same = c.deref-range-items.ensures.value in
    let i : ℕ = c.loop-range.range-index in
    let none : Range = record { from = 0; to = 0 } in
    let x : Range = get_or ranges i none in
    let below : i < length ranges = c.loop-range-test.true in
    subst (λ xs. (k : ℕ) → k < i + 1 → HoldsAt P xs k) same
    (places-more P ranges i x below (get_or_default ranges i none x below) (c.range_keeps.ensures c.if-not-range_keeps.false)
    (subst (λ xs. (k : ℕ) → k < i → HoldsAt P xs k) (sym same) c.loop-range.invariant))

pub returns : goal.returns
returns g c = λ _.
    certified-by (terms c.args.rule.now) c.args.memory.now
    (λ k few. c.loop-range.invariant k (omega (arith, c.loop-range-test.false, c.deref-range-items.ensures.len)))
