use Rattle.std.proofs.lemmas.Result.{err_from_is_err_and}
use Rattle.std.specs.Prelude.{None, false}
use Rattle.commands.specs.Running.{Runs, first_run}
use Rattle.commands.proofs.FirstRun.{built, first_unbuilt, on_ok, ran_first}
use Rattle.commands.proofs.running.run_first.Goals as goal

pub returns-clause-ok : goal.returns-clause-ok
returns-clause-ok g c =
    on_ok c.run_whole.result _
    (λ done. Runs first_run None false false done.0 (g.O.Write.contents c.args.output) (g.O.Write.contents done.1))
    (λ done. ran_first _ _ _ done.0 _ _ (built _ _ c.in_ok-image.image c.in_ok-image.ensures) c.new.ensures c.new-2.ensures.items)
    c.run_whole.ensures.ok

pub returns-in_err-image-clause-err : goal.returns-in_err-image-clause-err
returns-in_err-image-clause-err g c =
    let p = err_from_is_err_and c.from_residual.result c.from_residual.ensures.1 in
    rw (p.1, p.2) (first_unbuilt _ c.in_err-image.ensures)
