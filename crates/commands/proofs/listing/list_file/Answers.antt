use Rattle.std.proofs.lemmas.Result.{IfErr-weaker, err_from_is_err_and}
use Rattle.commands.specs.Listing.FailsToList.{at_program, at_output}
use Rattle.commands.proofs.listing.list_file.Goals as goal

pub returns-in_err-program-clause-err : goal.returns-in_err-program-clause-err
returns-in_err-program-clause-err g c =
    let p = err_from_is_err_and c.from_residual.result c.from_residual.ensures.1 in
    rw (p.1, p.2) (at_program c.in_err-program.ensures.err)

pub returns-clause-err : goal.returns-clause-err
returns-clause-err g c =
    let program = c.in_ok-program in
    IfErr-weaker c.list_to.result _ _
    (λ fault cut. at_output program.program.image program.program.labels program.ensures.ok cut) c.list_to.ensures.err
