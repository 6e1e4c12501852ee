use Rattle.cherisim_c.specs.Refusals.{IsTextsRefusal}
use Rattle.cherisim_c.proofs.Stopping.{of_labels, refused_so}
use Rattle.cherisim_c.proofs.policed.read_labelled.Goals as goal

pub returns-in_err-symbols-clause-err : goal.returns-in_err-symbols-clause-err
returns-in_err-symbols-clause-err c =
    let at = c.in_err-symbols in
    refused_so c.from_residual.result at.field-0.0 (IsTextsRefusal c.args.labels.now c.args.text.now) c.from_residual.ensures.1
    (of_labels c.args.labels.now c.args.text.now at.field-0.0 at.ensures.fault)

pub returns-in-Err-clause-err : goal.returns-in-Err-clause-err
returns-in-Err-clause-err c = c.in-Err.ensures.fault c.args.labels.now c.in_ok-symbols.ensures.symbols
