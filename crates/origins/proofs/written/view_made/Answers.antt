use Rattle.std.proofs.Common.{arith}
use Rattle.std.proofs.lemmas.Bool.Decides.{nat_tests}
use Rattle.origins.specs.Made as spec
use Rattle.origins.proofs.Parts.{none-by_insn}
use Rattle.origins.proofs.written.view_made.Goals as goal

pub returns-else-n-eq-MEPCC : goal.returns-else-n-eq-MEPCC
returns-else-n-eq-MEPCC c =
    none-by_insn c.args.insn (λ insn. spec.view_made c.args.n c.args.number c.args.value)
    (λ insn. grind (arith, nat_tests))
