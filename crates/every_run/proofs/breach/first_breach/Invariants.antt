use Rattle.std.proofs.Common.{ℕ, ◌<◌}
use Rattle.std.specs.List.{HoldsAt}
use Rattle.reached.specs.Links.{values}
use Rattle.policy.specs.Rule.{BreaksRule}
use Rattle.policy.specs.Terms.{terms}
use Rattle.every_run.proofs.breach.first_breach.Given as goal

abbrev pub invariant-loop-member : goal.invariant-loop-member
invariant-loop-member g l =
    (k : ℕ) → k < l.member-index → HoldsAt (λ v. BreaksRule (terms l.rule) v → ⊥) (values g.C.CapRep.value l.members) k
