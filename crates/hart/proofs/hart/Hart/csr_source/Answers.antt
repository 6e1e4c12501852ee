use Rattle.std.proofs.Common.{inl, inr, sym, ap, ◌∙◌}
use Rattle.steps.specs.SystemRows.{csr_source}
use Rattle.steps.proofs.Plans.{csr_source-number}
use Rattle.hart.proofs.hart.Hart.csr_source.Goals as goal

pub returns-in-Csrrwi : goal.returns-in-Csrrwi
unfolding csr_source
returns-in-Csrrwi g c =
    let insn = c.args.insn in
    let s = c.args.self.now in
    c.from.ensures ∙ elim c.in-Csrrwi.is [
      | inl same ↦ ap (λ row. csr_source row insn s) (sym same)
      | inr (inl same) ↦ ap (λ row. csr_source row insn s) (sym same)
      | inr (inr same) ↦ ap (λ row. csr_source row insn s) (sym same)
    ]

pub returns-in_default : goal.returns-in_default
returns-in_default g c =
    let other = c.in_default in
    c.number.ensures
    ∙ sym (csr_source-number c.args.insn.row c.args.insn c.args.self.now other.not-Csrrwi other.not-Csrrsi other.not-Csrrci)
