use Rattle.std.proofs.Common.{sym, ◌∙◌, arith}
use Rattle.std.proofs.lemmas.Bool.{false≢true}
use Rattle.std.proofs.lemmas.List.{length-map}
use Rattle.reached.specs.Links.{values}
use Rattle.doors.specs.Closed.{IsOpenedBy}
use Rattle.every_run.proofs.Checked.{mapped-more, holds-each}
use Rattle.every_run.proofs.members.has_behind.Goals as goal

pub loop-key-preserved : goal.loop-key-preserved
loop-key-preserved g c =
    mapped-more (λ m. g.C.CapRep.value m.cap) c.args.members.now c.loop-key.key-index c.key-item.result (omega arith) c.key-item.is
    (λ key. IsOpenedBy (g.C.CapRep.value c.args.cap) key → ⊥)
    (λ opens. false≢true (sym c.if-opens.false ∙ c.opens.ensures.1 opens)) c.loop-key.invariant

pub returns : goal.returns
returns g c = λ _ key there opens.
    absurd (holds-each (λ key. IsOpenedBy (g.C.CapRep.value c.args.cap) key → ⊥) (values g.C.CapRep.value c.args.members.now)
    c.loop-key.key-index (omega (arith, length-map c.args.members.now (λ m. g.C.CapRep.value m.cap))) c.loop-key.invariant key there
    opens)
