use Rattle.std.proofs.Common.{◌≡◌, ◌++◌, ◌≤◌, ◌-◌, drop, length}
use Rattle.reached.specs.Links.{values}
use Rattle.policy.specs.Terms.{terms_of}
use Rattle.policy.specs.Lending.{each_after}
use Rattle.policy.proofs.in_force.each_after.Given as goal

-- the rules so far and those of the places that are left make all rules
abbrev pub invariant-loop-place : goal.invariant-loop-place
invariant-loop-place g l = record {
  within : l.place ≤ length l.said;
  rules :
      terms_of l.rules.items
      ++ each_after (values g.C.CapRep.value l.reach) l.pc l.door (drop l.place (terms_of l.said)) (drop l.place (terms_of l.now))
      ≡ each_after (values g.C.CapRep.value l.reach) l.pc l.door (terms_of l.said) (terms_of l.now);
}

abbrev pub decreases-loop-place : goal.decreases-loop-place
decreases-loop-place g l = length l.said - l.place
