use Rattle.std.proofs.Common.{ℕ, ◌+◌, ap, subst, arith}
use Rattle.std.proofs.lemmas.List.{take_all, get_or_default}
use Rattle.std.specs.Prelude.{◌↔◌}
use Rattle.reach.specs.declared.range.Range.{Range}
use Rattle.reach.specs.Ranges.{IsInOne}
use Rattle.reach.proofs.Merging.{merged-more}
use Rattle.reach.proofs.spans.merged.Goals as goal

pub loop-range-preserved : goal.loop-range-preserved
loop-range-preserved c =
    let ranges = c.args.ranges.now in
    let i : ℕ = c.loop-range.range-index in
    let none : Range = record { from = 0; to = 0 } in
    let step = c.in_ok-add_range.ensures in
    record {
      apart = step.apart;
      begun = λ d below k e inside.
          omega (
            arith,
            step.begun k e inside,
            c.requires.ascending i (i + 1) none (omega arith) below,
            ap (λ r. r.from) (get_or_default ranges (i + 1) none d below),
          );
      same = merged-more ranges i none (omega arith) c.loop-range.found.items c.add_range.new.ranges.items c.loop-range.invariant.same
          step.same;
    }

pub returns-clause-same : goal.returns-clause-same
returns-clause-same c =
    subst (λ ranges. (a : ℕ) → IsInOne c.loop-range.found.items a ↔ IsInOne ranges a)
    (take_all c.loop-range.range-index c.args.ranges.now (omega arith)) c.loop-range.invariant.same
