use Rattle.std.proofs.Common.{ℕ, map, take}
use Rattle.std.specs.Prelude.{◌↔◌}
use Rattle.reach.specs.Ranges.{IsInOne, IsOpen, AreFilled}
use Rattle.reach.proofs.spans.opened.Given as goal

abbrev pub invariant-loop-member : goal.invariant-loop-member
invariant-loop-member g l = record {
  filled : AreFilled l.ranges.items;
  same : (a : ℕ) → IsInOne l.ranges.items a ↔ IsOpen l.right (map (λ m. g.C.CapRep.value m.cap) (take l.member-index l.members)) a;
}
