use Rattle.std.proofs.lemmas.Result.{err_from_is_err_and}
use Rattle.commands.specs.Programs.FailsToLoadProgram.{at_lines, at_program}
use Rattle.commands.proofs.programs.load_program.Goals as goal

pub returns-in_err-image-clause-err : goal.returns-in_err-image-clause-err
returns-in_err-image-clause-err g c =
    let p = err_from_is_err_and c.from_residual.result c.from_residual.ensures.1 in
    rw (p.1, p.2) (at_program c.in_err-image.ensures.err)

pub returns-in_err-table-clause-err : goal.returns-in_err-table-clause-err
returns-in_err-table-clause-err g c =
    let p = err_from_is_err_and c.from_residual-in_err-table.result c.from_residual-in_err-table.ensures.1 in
    let program = c.in_ok-image in
    rw (p.1, p.2)
    (at_lines program.field-0.image program.field-0.labels program.field-0.own_lines.items program.ensures.ok program.ensures.lines
    (rw c.deref.ensures.value at c.in_err-table.ensures.err))
