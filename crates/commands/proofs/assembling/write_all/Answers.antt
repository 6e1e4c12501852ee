use Rattle.std.proofs.Common.{inl}
use Rattle.std.proofs.lemmas.Result.{err_from_is_err_and}
use Rattle.commands.proofs.assembling.write_all.Goals as goal

pub returns-in_err-write_assembly-clause-err : goal.returns-in_err-write_assembly-clause-err
returns-in_err-write_assembly-clause-err g c =
    let p = err_from_is_err_and c.from_residual.result c.from_residual.ensures.1 in
    let cut = rw c.requires.image at c.in_err-write_assembly.ensures.err in
    rw (p.1, p.2) (inl cut)
