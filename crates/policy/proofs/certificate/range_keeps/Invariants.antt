use Rattle.std.proofs.Common.{◌≡◌, true}
use Rattle.std.specs.List.{All}
use Rattle.cap_bounds.specs.CapValue.{CapValue}
use Rattle.tagged_memory.specs.Memory.{has_tag, tagged_between}
use Rattle.tagged_memory.specs.Tagged.{tagged_rest}
use Rattle.authority.specs.Reachable.{IsHeldAt}
use Rattle.policy.specs.Terms.{terms}
use Rattle.policy.specs.Rule.{BreaksRule}
use Rattle.policy.proofs.Granules.{AreLookedAt}
use Rattle.policy.proofs.certificate.range_keeps.Given as goal

-- the granules that are left are tagged, and those that were looked at keep the rule
abbrev pub invariant-loop-address : goal.invariant-loop-address
invariant-loop-address g l = record {
  tagged : All (λ granule. has_tag l.memory granule ≡ true) (tagged_rest l.address-iterator);
  looked :
      AreLookedAt (λ granule. (v : CapValue) → IsHeldAt l.memory granule v → BreaksRule (terms l.rule) v → ⊥)
      (tagged_between l.memory l.range.from l.end) (tagged_rest l.address-iterator);
}
