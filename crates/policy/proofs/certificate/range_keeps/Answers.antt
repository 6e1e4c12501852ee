use Rattle.std.proofs.Common.{◌≡◌, ◌<◌, ap, ◌∙◌, arith}
use Rattle.cap_bounds.specs.CapValue.{CapValue}
use Rattle.tagged_memory.specs.Memory.{tagged_between}
use Rattle.tagged_memory.specs.Tagged.{tagged_rest}
use Rattle.authority.specs.Reachable.{IsHeldAt}
use Rattle.policy.specs.Terms.{terms}
use Rattle.policy.specs.Rule.{BreaksRule}
use Rattle.policy.proofs.Granules.{tagged-there, looked-none, looked-more, looked-all, tagged-all, tagged-first, tagged-others, below-end}
use Rattle.policy.proofs.certificate.range_keeps.Goals as goal

pub loop-address-init : goal.loop-address-init
loop-address-init g c =
    let m = c.args.memory.now in
    let found : tagged_rest c.into_iter-address-iterator.result ≡ tagged_between m c.args.range.now.from c.min-end.result =
    ap tagged_rest c.into_iter-address-iterator.ensures.into_iter_gives ∙ c.tagged-address-items.ensures in
    record { tagged = tagged-all m _ _ _ found; looked = looked-none _ _ _ found }

pub granule_keeps-requires-clause-tagged : goal.granule_keeps-requires-clause-tagged
granule_keeps-requires-clause-tagged g c =
    tagged-first c.args.memory.now c.in-Some.address _ _ c.in-Some.ensures.steps c.loop-address.invariant.tagged

pub loop-address-preserved : goal.loop-address-preserved
loop-address-preserved g c =
    let m = c.args.memory.now in
    record {
      tagged = tagged-others m c.in-Some.address _ _ c.in-Some.ensures.steps c.loop-address.invariant.tagged;
      looked =
          looked-more (λ granule. (v : CapValue) → IsHeldAt m granule v → BreaksRule (terms c.args.rule.now) v → ⊥)
          (tagged_between m c.args.range.now.from c.min-end.result) c.in-Some.address _ _ c.in-Some.ensures.steps
          (c.granule_keeps.ensures c.if-not-granule_keeps.false) c.loop-address.invariant.looked;
    }

pub returns : goal.returns
returns g c = λ _ granule v inside here.
    let m = c.args.memory.now in
    let end : granule < c.min-end.result =
    omega (arith, inside.high, below-end m c.is_sound.ensures granule here.tagged, c.min-end.ensures) in
    looked-all (λ a. (w : CapValue) → IsHeldAt m a w → BreaksRule (terms c.args.rule.now) w → ⊥)
    (tagged_between m c.args.range.now.from c.min-end.result) _ c.in-None.ensures.steps.0 c.loop-address.invariant.looked granule
    (tagged-there m c.is_sound.ensures c.args.range.now.from c.min-end.result granule here.tagged inside.low end) v here
