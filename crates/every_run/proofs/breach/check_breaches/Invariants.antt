use Rattle.std.proofs.Common.{ℕ, ◌<◌}
use Rattle.std.specs.List.{HoldsAt}
use Rattle.reached.specs.Links.{values}
use Rattle.reach.specs.First.{HoldsOfNone}
use Rattle.policy.specs.Rule.{BreaksRule}
use Rattle.policy.specs.Terms.{terms_of}
use Rattle.every_run.proofs.breach.check_breaches.Given as goal

abbrev pub invariant-loop-rule : goal.invariant-loop-rule
invariant-loop-rule g l =
    (k : ℕ) → k < l.rule
    → HoldsAt (λ rule. HoldsOfNone (BreaksRule rule) (values g.C.CapRep.value l.members)) (terms_of l.rules) k
