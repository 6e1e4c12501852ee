use Rattle.std.proofs.Common.{◌≡◌, ℕ, ◌-◌, ◌<◌, ◌≤◌, length, get_or, max, ap, refl, sym, subst, ◌∙◌, arith}
use Rattle.std.proofs.lemmas.List.{get_or_default}
use Rattle.reach.specs.declared.range.Range.{Range}
use Rattle.reach.specs.Merging.{LastReaches}
use Rattle.reach.proofs.Merging.{in_one-grown, grown-in_one}
use Rattle.reach.proofs.spans.add_range.Goals as goal

pub returns-then-last_reaches-clause-same : goal.returns-then-last_reaches-clause-same
returns-then-last_reaches-clause-same c =
    let ranges = c.args.ranges.now.items in
    let range = c.args.range in
    let i : ℕ = c.len-last.result - 1 in
    let same : c.deref.result.now ≡ ranges = c.deref.ensures.value in
    let reaches : LastReaches ranges range.from =
    subst (λ rs. LastReaches rs range.from) same (c.last_reaches.ensures.0 c.if-last_reaches.true) in
    let count : c.len-last.result ≡ length ranges = omega (arith, c.deref.ensures.len, c.len-last.ensures, ap length same) in
    let some = reaches.some in
    let below : i < length ranges = omega arith in
    let last = c.index_mut.result.now in
    let at = c.index_mut.ensures.value in
    let read : c.index.result.now ≡ last = c.index.ensures ∙ get_or_default ranges i c.index.result.now last below ∙ sym at in
    let grown : Range = record { from = last.from; to = c.max-to.result } in
    let to : c.max-to.result ≡ max last.to range.to = c.max-to.ensures ∙ ap (λ r. max r.to range.to) read in
    let begun : last.from ≤ range.from = subst (λ r. r.from ≤ range.from) (sym at) (c.requires.begun i last below) in
    let place : length ranges - 1 ≡ i = omega arith in
    let far : range.from ≤ last.to =
    subst (λ r. range.from ≤ r.to) (ap (λ n. get_or ranges n last) place ∙ sym at) (reaches.last last) in
    λ a. (
      in_one-grown ranges i last range grown below at refl to begun far a,
      grown-in_one ranges i last range grown below at refl to begun far a,
    )
