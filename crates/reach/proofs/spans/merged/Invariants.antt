use Rattle.std.proofs.Common.{ℕ, ◌<◌, take, length, get_or}
use Rattle.std.specs.Prelude.{◌↔◌}
use Rattle.reach.specs.declared.range.Range.{Range}
use Rattle.reach.specs.Ranges.{IsInOne, AreApart}
use Rattle.reach.specs.Merging.{AreBegunBy}
use Rattle.reach.proofs.spans.merged.Given as goal

abbrev pub invariant-loop-range : goal.invariant-loop-range
invariant-loop-range l = record {
  apart : AreApart l.found.items;
  begun : (d : Range) → l.range-index < length l.ranges → AreBegunBy (get_or l.ranges l.range-index d).from l.found.items;
  same : (a : ℕ) → IsInOne l.found.items a ↔ IsInOne (take l.range-index l.ranges) a;
}
