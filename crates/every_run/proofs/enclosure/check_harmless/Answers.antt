use Rattle.std.proofs.Common.{sym, ◌∙◌, arith}
use Rattle.std.proofs.lemmas.Bool.{false≢true}
use Rattle.std.proofs.lemmas.List.{length-map}
use Rattle.reached.specs.Links.{values}
use Rattle.every_run.proofs.Checked.{mapped-more, holds-each}
use Rattle.every_run.proofs.Enclosed.{IsHarmless}
use Rattle.every_run.proofs.enclosure.check_harmless.Goals as goal

pub loop-member-preserved : goal.loop-member-preserved
loop-member-preserved g c =
    mapped-more (λ m. g.C.CapRep.value m.cap) c.args.members.now c.loop-member.member-index c.member-item.result (omega arith)
    c.member-item.is IsHarmless (record {
      system = λ opens. false≢true (sym c.if-opens_system.false ∙ c.opens_system.ensures.opens.1 opens);
      seal = λ may. false≢true (sym c.if-may_seal.false ∙ c.may_seal.ensures.1 may);
    }) c.loop-member.invariant

pub returns : goal.returns
returns g c =
    let each =
    holds-each IsHarmless (values g.C.CapRep.value c.args.members.now) c.loop-member.member-index
    (omega (arith, length-map c.args.members.now (λ m. g.C.CapRep.value m.cap))) c.loop-member.invariant in
    record { system = λ v there. (each v there).system; seal = λ v there. (each v there).seal }
