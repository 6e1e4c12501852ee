use Rattle.std.proofs.Common.{◌≡◌, drop}
use Rattle.origin_texts.proofs.calls.drop_newest.Given as goal

abbrev pub invariant-loop-left : goal.invariant-loop-left
invariant-loop-left l = record { rest : drop l.left l.stack.items ≡ drop l.fn.count l.fn.stack.items }

abbrev pub decreases-loop-left : goal.decreases-loop-left
decreases-loop-left l = l.left
