use Rattle.std.proofs.Common.{ℕ, ◌<◌}
use Rattle.std.specs.List.{HoldsAt}
use Rattle.policy.specs.Terms.{terms_of}
use Rattle.policy.specs.Watch.{Applies}
use Rattle.every_run.proofs.step.check_rules.Given as goal

abbrev pub invariant-loop-rule : goal.invariant-loop-rule
invariant-loop-rule l = (k : ℕ) → k < l.rule → HoldsAt (λ rule. Applies rule l.at → ⊥) (terms_of l.rules) k
