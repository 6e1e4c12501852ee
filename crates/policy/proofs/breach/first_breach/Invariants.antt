use Rattle.reached.specs.Links.{values}
use Rattle.reach.proofs.Places.{HoldsBelow}
use Rattle.policy.specs.Terms.{terms}
use Rattle.policy.specs.Rule.{BreaksRule}
use Rattle.policy.proofs.breach.first_breach.Given as goal

abbrev pub invariant-loop-place : goal.invariant-loop-place
invariant-loop-place g l = HoldsBelow (BreaksRule (terms l.rule)) (values g.C.CapRep.value l.reach) l.place
