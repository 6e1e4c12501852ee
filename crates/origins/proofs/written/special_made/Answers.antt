use Rattle.std.proofs.Common.{◌∙◌}
use Rattle.std.proofs.lemmas.Bool.{ne_eqb}
use Rattle.base.specs.declared.registers.scr.TheConstants.{PCC}
use Rattle.steps.specs.Applying.{meant}
use Rattle.origins.specs.Made as spec
use Rattle.origins.proofs.Parts.{other-special_made}
use Rattle.origins.proofs.written.special_made.Goals as goal

pub returns-else-n-eq-PCC : goal.returns-else-n-eq-PCC
returns-else-n-eq-PCC g c =
    c.other_made.ensures
    ∙ other-special_made c.args.insn c.args.n (meant g.C.CapRep.value c.args.effect.now) c.args.hart.now
    (ne_eqb c.args.n PCC c.if-n-eq-PCC.false)
