use Rattle.std.proofs.Common.{◌∙◌, ap, sym, None, ◌&&◌, not}
use Rattle.std.proofs.lemmas.Bool.{cond-false}
use Rattle.cap_bounds.specs.CapValue.{is_tagged}
use Rattle.cap_bounds.specs.SetAddress.{at_address}
use Rattle.origins.specs.Made as spec
use Rattle.origins.proofs.Parts.{none-by_insn}
use Rattle.origins.proofs.written.pcc_moved.Goals as goal

pub returns-else-loses_tag : goal.returns-else-loses_tag
returns-else-loses_tag g c =
    none-by_insn c.args.insn (λ insn. spec.pcc_moved c.args.address c.args.hart.now)
    (λ insn. cond-false _ _ None
    (ap (λ v. is_tagged v && not (is_tagged (at_address v c.args.address)))
    (sym (c.pcc.ensures.value ∙ ap (λ x. x.pcc) c.scrs.ensures.value))
    ∙ sym c.loses_tag.ensures
    ∙ c.if-loses_tag.false))
