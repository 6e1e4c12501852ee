use Rattle.std.proofs.Common.{map}
use Rattle.reach.specs.Questions.{Answers}
use Rattle.reach.proofs.Places.{HoldsBelow}
use Rattle.reach.proofs.first.first.Given as goal

abbrev pub invariant-loop-place : goal.invariant-loop-place
invariant-loop-place g l = HoldsBelow (Answers l.question) (map (λ m. g.C.CapRep.value m.cap) l.members) l.place
