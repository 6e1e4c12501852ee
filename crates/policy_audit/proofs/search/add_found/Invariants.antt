use Rattle.std.proofs.Common.{◌≡◌, ◌++◌, ◌≤◌, ◌-◌, drop, length}
use Rattle.reached.specs.Links.{values}
use Rattle.policy.specs.Terms.{terms_of}
use Rattle.policy_audit.specs.Found.{found_from}
use Rattle.policy_audit.proofs.search.add_found.Given as goal

-- what is found and what is found of the rules that are left make all that is found
abbrev pub invariant-loop-place : goal.invariant-loop-place
invariant-loop-place g l = record {
  within : l.place ≤ length l.rules;
  found : l.found.items ++ found_from l.seen (values g.C.CapRep.value l.members) l.at l.place (drop l.place (terms_of l.rules))
      ≡ l.fn.found.items ++ found_from l.seen (values g.C.CapRep.value l.members) l.at 0 (terms_of l.rules);
}

abbrev pub decreases-loop-place : goal.decreases-loop-place
decreases-loop-place g l = length l.rules - l.place
