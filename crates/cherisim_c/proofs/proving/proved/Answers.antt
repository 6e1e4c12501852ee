use Rattle.cherisim_c.specs.Refusals.{IsTextsRefusal}
use Rattle.cherisim_c.proofs.Stopping.{refused_so}
use Rattle.cherisim_c.proofs.proving.proved.Goals as goal

pub returns-in_err-read-clause-err : goal.returns-in_err-read-clause-err
returns-in_err-read-clause-err c =
    let at = c.in_err-read in
    refused_so c.from_residual.result at.field-0.0 (IsTextsRefusal c.args.labels.now c.args.text.now) c.from_residual.ensures.1
    at.ensures.err
