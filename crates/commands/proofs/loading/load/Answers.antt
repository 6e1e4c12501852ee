use Rattle.std.proofs.lemmas.Result.{err_from_is_err_and}
use Rattle.commands.specs.Loading.FailsToLoad.{at_input, at_policy, at_program}
use Rattle.commands.proofs.loading.load.Goals as goal

pub returns-in_err-program-clause-err : goal.returns-in_err-program-clause-err
returns-in_err-program-clause-err g c =
    let p = err_from_is_err_and c.from_residual.result c.from_residual.ensures.1 in
    rw (p.1, p.2) (at_program c.in_err-program.ensures.err)

pub returns-in_err-rules-clause-err : goal.returns-in_err-rules-clause-err
returns-in_err-rules-clause-err g c =
    let p = err_from_is_err_and c.from_residual-in_err-rules.result c.from_residual-in_err-rules.ensures.1 in
    let program = c.in_ok-program in
    rw (p.1, p.2) (at_policy program.program.image program.program.table program.ensures.ok c.in_err-rules.ensures.err)

pub returns-in_err-input-clause-err : goal.returns-in_err-input-clause-err
returns-in_err-input-clause-err g c =
    let p = err_from_is_err_and c.from_residual-in_err-input.result c.from_residual-in_err-input.ensures.1 in
    let program = c.in_ok-program in
    rw (p.1, p.2)
    (at_input program.program.image program.program.table c.in_ok-rules.rules program.ensures.ok c.in_ok-rules.ensures.rules
    (rw c.schedule_of-schedule.ensures.value at c.in_err-input.ensures.err))
