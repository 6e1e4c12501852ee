use Rattle.steps.specs.Applying.{meant}
use Rattle.origins.specs.Made as spec
use Rattle.origins.proofs.Parts.{none-by_insn, no-other_made}
use Rattle.origins.proofs.written.other_made.Goals as goal

pub returns-in_default : goal.returns-in_default
returns-in_default g c =
    none-by_insn c.args.insn (λ insn. spec.other_made c.args.n (meant g.C.CapRep.value c.args.effect.now) insn)
    (no-other_made g.C.CapRep.value c.args.n c.args.effect.now c.in_default.not-Special c.in_default.not-Csr)
