use Rattle.isa_rows.specs.InsnLaws.{OperandsFit-Fits, Fits-OperandsFit}
use Rattle.isa_rows.proofs.operands.fits.Goals as goal

pub returns : goal.returns
returns c =
    let by_format = rw c.format.ensures at c.operands_fit.ensures in
    (λ h. Fits-OperandsFit c.args.insn.now (by_format.0 h), λ h. by_format.1 (OperandsFit-Fits c.args.insn.now h))
