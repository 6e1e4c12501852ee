use Rattle.std.proofs.Common.{arith}
use Rattle.std.proofs.lemmas.List.{length-map}
use Rattle.reached.specs.Links.{values}
use Rattle.every_run.proofs.Checked.{mapped-more, holds-each}
use Rattle.every_run.proofs.Found.{HasBehind}
use Rattle.every_run.proofs.members.missing.Goals as goal

pub loop-member-preserved : goal.loop-member-preserved
loop-member-preserved g c =
    mapped-more (λ m. g.C.CapRep.value m.cap) c.args.members.now c.loop-member.member-index c.member-item.result (omega arith)
    c.member-item.is (HasBehind (values g.C.CapRep.value c.args.members.now)) (c.has_behind.ensures c.if-not-has_behind.false)
    c.loop-member.invariant

pub returns : goal.returns
returns g c = λ v key there by opens.
    holds-each (HasBehind (values g.C.CapRep.value c.args.members.now)) (values g.C.CapRep.value c.args.members.now)
    c.loop-member.member-index (omega (arith, length-map c.args.members.now (λ m. g.C.CapRep.value m.cap))) c.loop-member.invariant
    v there key by opens
