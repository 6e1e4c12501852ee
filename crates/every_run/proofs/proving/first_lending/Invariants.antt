use Rattle.std.proofs.Common.{◌≡◌, ℕ, ◌<◌, false}
use Rattle.std.specs.List.{HoldsAt}
use Rattle.policy.specs.Terms.{terms_of}
use Rattle.every_run.proofs.proving.first_lending.Given as goal

abbrev pub invariant-loop-place : goal.invariant-loop-place
invariant-loop-place l = (k : ℕ) → k < l.place → HoldsAt (λ rule. rule.or_caller ≡ false) (terms_of l.rules) k
