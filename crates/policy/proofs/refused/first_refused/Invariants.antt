use Rattle.std.proofs.Common.{ℕ, ◌<◌}
use Rattle.std.specs.List.{HoldsAt}
use Rattle.reached.specs.Links.{values}
use Rattle.reach.specs.First.{HoldsOfNone}
use Rattle.policy.specs.Terms.{terms_of}
use Rattle.policy.specs.Rule.{BreaksRule}
use Rattle.policy.specs.Watch.{Applies}
use Rattle.policy.proofs.refused.first_refused.Given as goal

abbrev pub invariant-loop-place : goal.invariant-loop-place
invariant-loop-place g l =
    (k : ℕ) → k < l.place
    → HoldsAt (λ rule. Applies rule l.at → HoldsOfNone (BreaksRule rule) (values g.C.CapRep.value l.reach)) (terms_of l.rules) k
