use Rattle.std.proofs.Common.{subst}
use Rattle.schedules.specs.Schedule.{IsRunnable}
use Rattle.cherisim_c.specs.Policies.{ShowsStop}
use Rattle.cherisim_c.specs.Refusals.{IsRefusalOf}
use Rattle.cherisim_c.proofs.Stopping.{refused_so}
use Rattle.cherisim_c.proofs.policies.watched.Goals as goal

pub returns-in_err-asked-clause-err : goal.returns-in_err-asked-clause-err
returns-in_err-asked-clause-err c =
    let at = c.in_err-asked in
    refused_so c.from_residual.result at.field-0.0 (IsRefusalOf c.args.labels.now c.args.text.now c.args.timetable)
    c.from_residual.ensures.1 at.ensures.err

pub returns-in-Ok-clause-ok : goal.returns-in-Ok-clause-ok
returns-in-Ok-clause-ok c =
    let asked = c.in_ok-asked.ensures in
    let policy = c.in_ok-asked.asked.texts.policy in
    record {
      policy = policy;
      is_read = asked.texts.policy;
      shown = subst (λ it. ShowsStop policy it c.args.input.now c.args.machine.now c.in-Ok.found) asked.schedule c.in-Ok.ensures;
    }

pub returns-in-Ok-clause-range : goal.returns-in-Ok-clause-range
returns-in-Ok-clause-range c = subst IsRunnable c.in_ok-asked.ensures.schedule c.in_ok-asked.ensures.range
