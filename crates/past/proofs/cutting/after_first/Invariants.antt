use Rattle.std.proofs.Common.{◌≡◌, length}
use Rattle.past.specs.Giving.{after_first}
use Rattle.past.proofs.cutting.after_first.Given as goal

-- what is left of the commands is what is left of those that are to come
abbrev pub invariant-loop-rest : goal.invariant-loop-rest
invariant-loop-rest l = after_first l.n l.all ≡ after_first l.left l.rest

abbrev pub decreases-loop-rest : goal.decreases-loop-rest
decreases-loop-rest l = length l.rest
