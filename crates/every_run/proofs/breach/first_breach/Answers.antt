use Rattle.std.proofs.Common.{arith}
use Rattle.std.proofs.lemmas.List.{length-map}
use Rattle.reached.specs.Links.{values}
use Rattle.policy.specs.Rule.{BreaksRule}
use Rattle.policy.specs.Terms.{terms}
use Rattle.every_run.proofs.Checked.{mapped-more, holds-each}
use Rattle.every_run.proofs.breach.first_breach.Goals as goal

pub loop-member-preserved : goal.loop-member-preserved
loop-member-preserved g c =
    mapped-more (λ m. g.C.CapRep.value m.cap) c.args.members.now c.loop-member.member-index c.member-item.result (omega arith)
    c.member-item.is (λ v. BreaksRule (terms c.args.rule.now) v → ⊥) c.in_default.ensures c.loop-member.invariant

pub returns : goal.returns
returns g c =
    holds-each (λ v. BreaksRule (terms c.args.rule.now) v → ⊥) (values g.C.CapRep.value c.args.members.now) c.loop-member.member-index
    (omega (arith, length-map c.args.members.now (λ m. g.C.CapRep.value m.cap))) c.loop-member.invariant
