use Rattle.std.proofs.Common.{◌≡◌, ◌≤◌, ◌-◌, [], drop, length}
use Rattle.reached.specs.Links.{values}
use Rattle.policy.specs.Opened.{entries_with}
use Rattle.policy.proofs.entries.entries_of.Given as goal

-- the entries so far and those of the members that are left make all
abbrev pub invariant-loop-number : goal.invariant-loop-number
invariant-loop-number g l = record {
  within : l.number ≤ length l.members;
  entries :
      entries_with l.entries.items (drop l.number (values g.C.CapRep.value l.members))
      ≡ entries_with [] (values g.C.CapRep.value l.members);
}

abbrev pub decreases-loop-number : goal.decreases-loop-number
decreases-loop-number g l = length l.members - l.number
