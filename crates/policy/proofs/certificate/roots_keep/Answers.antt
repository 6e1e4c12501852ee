use Rattle.std.proofs.Common.{sym, ap, ◌∙◌, subst}
use Rattle.std.proofs.lemmas.Bool.{false≢true}
use Rattle.policy.specs.Terms.{terms}
use Rattle.policy.proofs.Certificates.{KeepsTagged, roots-keep}
use Rattle.policy.proofs.certificate.roots_keep.Goals.{then-keeps, else-keeps}
use Rattle.policy.proofs.certificate.roots_keep.Goals as goal

pub returns-then-keeps-2 : goal.returns-then-keeps-2
returns-then-keeps-2 g c =
    let rule = (terms c.args.rule.now) in
    let same = c.scrs-scrs.ensures.value in
    elim c.if-keeps.branch [
      | then-keeps w ↦ λ yes.
          roots-keep rule c.args.hart.now c.scrs-scrs.ensures.state
          (subst (KeepsTagged rule) (c.pcc.ensures.value ∙ ap (λ x. x.pcc) same) (c.keeps.ensures w.if-keeps.true))
          (subst (KeepsTagged rule) (w.ddc.ensures ∙ ap (λ x. x.ddc) same)
          (w.keeps-then-keeps.ensures (sym w.value-is ∙ c.if-keeps-2.true)))
          (c.registers_keep.ensures yes)
      | else-keeps w ↦ absurd (false≢true (sym w.if-keeps.false ∙ sym w.value-is ∙ c.if-keeps-2.true))
    ]
