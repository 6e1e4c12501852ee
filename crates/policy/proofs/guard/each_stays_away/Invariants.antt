use Rattle.std.proofs.Common.{ℕ, ◌<◌}
use Rattle.std.specs.List.{HoldsAt}
use Rattle.policy.specs.Terms.{terms, terms_of}
use Rattle.policy.specs.Known.{StaysAway}
use Rattle.policy.proofs.guard.each_stays_away.Given as goal

abbrev pub invariant-loop-rule : goal.invariant-loop-rule
invariant-loop-rule l = (k : ℕ) → k < l.rule-index → HoldsAt (StaysAway l.at (terms l.guard)) (terms_of l.rules) k
