use Rattle.std.proofs.Common.{◌<◌, length, get_or, ap, ◌∙◌, arith}
use Rattle.policy.specs.Terms.{terms}
use Rattle.policy.specs.Rule.{BreaksRule}
use Rattle.reach.proofs.Places.{below-more}
use Rattle.policy.proofs.breach.first_breach.Goals as goal

pub loop-place-preserved : goal.loop-place-preserved
loop-place-preserved g c =
    let items = c.args.reach.now in
    let many = ap length c.members-member-items.ensures in
    let below : c.loop-place.place < length items = omega arith in
    below-more (BreaksRule (terms c.args.rule.now)) (λ m. g.C.CapRep.value m.cap) items c.loop-place.place c.member-item.result below
    (c.member-item.is ∙ ap (λ xs. get_or xs c.loop-place.place c.member-item.result) c.members-member-items.ensures)
    c.in_default.ensures.none c.loop-place.invariant
