use Rattle.std.proofs.Common.{◌≡◌, ◌≤◌, ◌-◌, drop, length}
use Rattle.origin_texts.specs.Calls.{left_by}
use Rattle.origin_texts.proofs.calls.newer_than.Given as goal

abbrev pub invariant-loop-n : goal.invariant-loop-n
invariant-loop-n l = record {
  some : l.n ≤ length l.stack.items;
  rest : left_by l.ending l.stack.items ≡ left_by l.ending (drop l.n l.stack.items);
}

abbrev pub decreases-loop-n : goal.decreases-loop-n
decreases-loop-n l = length l.stack.items - l.n
