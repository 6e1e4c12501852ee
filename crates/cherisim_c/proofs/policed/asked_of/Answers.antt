use Rattle.cherisim_c.specs.Refusals.{IsRefusalOf}
use Rattle.cherisim_c.proofs.Stopping.{of_texts, refused_so}
use Rattle.cherisim_c.proofs.policed.asked_of.Goals as goal

pub returns-in_err-schedule-clause-err : goal.returns-in_err-schedule-clause-err
returns-in_err-schedule-clause-err c =
    let at = c.in_err-schedule in
    refused_so c.from_residual.result at.field-0.0 (IsRefusalOf c.args.labels.now c.args.text.now c.args.timetable)
    c.from_residual.ensures.1 (at.ensures.fault c.args.labels.now c.args.text.now)

pub returns-in-Err-clause-err : goal.returns-in-Err-clause-err
returns-in-Err-clause-err c =
    of_texts c.args.labels.now c.args.text.now c.args.timetable c.in-Err.refusal c.in-Err.ensures.err
