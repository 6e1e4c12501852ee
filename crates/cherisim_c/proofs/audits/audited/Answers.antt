use Rattle.std.proofs.Common.{subst}
use Rattle.std.specs.Prelude.{string_bytes}
use Rattle.schedules.specs.Schedule.{IsRunnable}
use Rattle.cherisim_c.specs.Policies.{TellsOf}
use Rattle.cherisim_c.specs.Refusals.{IsRefusalOf}
use Rattle.cherisim_c.proofs.Stopping.{refused_so}
use Rattle.cherisim_c.proofs.audits.audited.Goals as goal

pub returns-in_err-asked-clause-err : goal.returns-in_err-asked-clause-err
returns-in_err-asked-clause-err c =
    let at = c.in_err-asked in
    refused_so c.from_residual.result at.field-0.0 (IsRefusalOf c.args.labels.now c.args.text.now c.args.timetable)
    c.from_residual.ensures.1 at.ensures.err

pub returns-in-Ok-clause-ok : goal.returns-in-Ok-clause-ok
returns-in-Ok-clause-ok c =
    let asked = c.in_ok-asked.ensures in
    let texts = c.in_ok-asked.asked.texts in
    record {
      read = texts;
      texts = asked.texts;
      runnable = subst IsRunnable asked.schedule asked.range;
      tells = subst (λ it. TellsOf c.args.text.now texts it c.args.input.now c.args.machine.now (string_bytes c.in-Ok.told))
          asked.schedule c.in-Ok.ensures;
    }
