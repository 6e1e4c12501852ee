use Rattle.std.proofs.Common.{◌≡◌, ◌≤◌, ◌-◌, List, drop, length}
use Rattle.cap_bounds.specs.CapValue.{CapValue}
use Rattle.policy.specs.Terms.{terms_of}
use Rattle.policy_audit.specs.Found.{found_from}
use Rattle.policy_audit.proofs.search.finds_none.Given as goal

-- nothing is found of the rules so far
abbrev pub invariant-loop-place : goal.invariant-loop-place
invariant-loop-place l = record {
  within : l.place ≤ length l.rules;
  none : (vs : List CapValue) → found_from l.seen vs l.at 0 (terms_of l.rules)
      ≡ found_from l.seen vs l.at l.place (drop l.place (terms_of l.rules));
}

abbrev pub decreases-loop-place : goal.decreases-loop-place
decreases-loop-place l = length l.rules - l.place
