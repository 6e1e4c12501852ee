use Rattle.std.proofs.Common.{refl}
use Rattle.std.proofs.lemmas.Result.{IfErr-weaker}
use Rattle.commands.specs.Files.{changed}
use Rattle.commands.specs.RunFaults.FailsToRun.{at_files, at_run}
use Rattle.commands.specs.Watching.{RunsFile}
use Rattle.commands.proofs.FirstRun.{on_ok}
use Rattle.program.proofs.carrying.run_file.Goals as goal

pub returns-in-Ok-clause-ok : goal.returns-in-Ok-clause-ok
returns-in-Ok-clause-ok g c =
    on_ok c.run_loaded.result _
    (λ done. RunsFile c.args.request c.args.reports c.args.at done.0
    (changed (g.O.Write.contents c.args.output) (g.O.Write.contents done.1) (g.F.Folder.files c.args.folder.now)
    (g.F.Folder.files c.run_loaded.new.folder)))
    (λ done runs. (c.in-Ok.run', c.in-Ok.ensures.loaded, runs)) c.run_loaded.ensures.ok

pub returns-in-Ok-clause-err : goal.returns-in-Ok-clause-err
returns-in-Ok-clause-err g c =
    IfErr-weaker c.run_loaded.result _ _ (λ fault why. at_run c.in-Ok.run' c.in-Ok.ensures.loaded why) c.run_loaded.ensures.err

pub returns-in-Err-clause-err : goal.returns-in-Err-clause-err
returns-in-Err-clause-err g c = at_files c.in-Err.ensures.err refl
