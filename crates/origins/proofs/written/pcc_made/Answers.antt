use Rattle.std.proofs.Common.{ap, ◌∙◌}
use Rattle.steps.specs.Applying.{meant}
use Rattle.origins.specs.Made as spec
use Rattle.origins.specs.Parts.{by_insn}
use Rattle.origins.proofs.Parts.{same-by_insn, next-pcc_made}
use Rattle.origins.proofs.written.pcc_made.Goals as goal

pub returns-in-Enter : goal.returns-in-Enter
returns-in-Enter g c = rw c.in-Enter.is c.pcc_entered.ensures

pub returns-in-Return : goal.returns-in-Return
returns-in-Return g c = rw c.in-Return.is c.pcc_returned.ensures

pub returns-in_default : goal.returns-in_default
returns-in_default g c =
    c.pcc_moved-in_default.ensures
    ∙ ap (λ address. by_insn c.args.insn (λ insn. spec.pcc_moved address c.args.hart.now)) c.next_address.ensures
    ∙ same-by_insn c.args.insn _ (λ insn. spec.pcc_made (meant g.C.CapRep.value c.args.effect.now) insn c.args.hart.now)
    (next-pcc_made g.C.CapRep.value c.args.effect.now c.args.hart.now c.in_default.not-Jump c.in_default.not-Link c.in_default.not-Enter
    c.in_default.not-Return)
