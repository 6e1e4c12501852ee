use Rattle.std.proofs.Common.{refl}
use Rattle.std.proofs.lemmas.Result.{IfErr-weaker}
use Rattle.commands.specs.Auditing.FailsToAudit.{at_files, at_run}
use Rattle.commands.specs.Auditing.{AuditsRun}
use Rattle.commands.specs.Files.{changed}
use Rattle.commands.proofs.FirstRun.{on_ok}
use Rattle.commands.proofs.auditing.audit_file.Goals as goal

pub returns-in-Ok-clause-ok : goal.returns-in-Ok-clause-ok
returns-in-Ok-clause-ok g c =
    on_ok c.audit_on.result _
    (λ done. AuditsRun c.args.request done.0
    (changed (g.O.Write.contents c.args.output) (g.O.Write.contents done.1) (g.F.Folder.files c.args.folder.now)
    (g.F.Folder.files c.audit_on.new.folder)))
    (λ done audits. (c.in-Ok.run', c.in-Ok.ensures.loaded, audits)) c.audit_on.ensures.ok

pub returns-in-Ok-clause-err : goal.returns-in-Ok-clause-err
returns-in-Ok-clause-err g c =
    IfErr-weaker c.audit_on.result _ _ (λ fault why. at_run c.in-Ok.run' c.in-Ok.ensures.loaded why) c.audit_on.ensures.err

pub returns-in-Err-clause-err : goal.returns-in-Err-clause-err
returns-in-Err-clause-err g c = at_files c.in-Err.ensures.err refl
