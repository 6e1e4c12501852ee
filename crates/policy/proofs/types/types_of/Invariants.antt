use Rattle.std.proofs.Common.{◌≡◌, ◌≤◌, ◌-◌, [], drop, length}
use Rattle.reached.specs.Links.{values}
use Rattle.policy.specs.Opened.{types_with}
use Rattle.policy.proofs.types.types_of.Given as goal

-- the types so far and those of the members that are left make all types
abbrev pub invariant-loop-number : goal.invariant-loop-number
invariant-loop-number g l = record {
  within : l.number ≤ length l.members;
  types : types_with l.types.items (drop l.number (values g.C.CapRep.value l.members)) ≡ types_with [] (values g.C.CapRep.value l.members);
}

abbrev pub decreases-loop-number : goal.decreases-loop-number
decreases-loop-number g l = length l.members - l.number
