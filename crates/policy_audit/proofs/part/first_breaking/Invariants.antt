use Rattle.std.proofs.Common.{◌≡◌, ◌≤◌, ◌-◌, drop, length}
use Rattle.reached.specs.Links.{values}
use Rattle.policy.specs.Terms.{terms}
use Rattle.policy.specs.Tests.{breaks}
use Rattle.policy_audit.specs.Found.{first_from}
use Rattle.policy_audit.proofs.part.first_breaking.Given as goal

-- no member before the number breaks it
abbrev pub invariant-loop-number : goal.invariant-loop-number
invariant-loop-number g l = record {
  within : l.number ≤ length l.members;
  before : first_from (breaks (terms l.rule) l.ban) 0 (values g.C.CapRep.value l.members)
      ≡ first_from (breaks (terms l.rule) l.ban) l.number (drop l.number (values g.C.CapRep.value l.members));
}

abbrev pub decreases-loop-number : goal.decreases-loop-number
decreases-loop-number g l = length l.members - l.number
