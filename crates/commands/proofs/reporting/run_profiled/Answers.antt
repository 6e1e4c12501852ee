use Rattle.std.specs.Prelude.{[]}
use Rattle.commands.specs.Loading.{events_to, run_of}
use Rattle.commands.specs.Running.{Traces, trace_of}
use Rattle.commands.proofs.Filing.{grows_traced}
use Rattle.commands.proofs.FirstRun.{on_ok}
use Rattle.commands.proofs.reporting.run_profiled.Goals as goal

pub returns-in-Some-clause-files : goal.returns-in-Some-clause-files
returns-in-Some-clause-files g c = rw c.in-Some.is c.profile_image.ensures.files

pub returns-in-None-clause-files : goal.returns-in-None-clause-files
returns-in-None-clause-files g c =
    let run = run_of c.args.run.now in
    let trace = c.args.run.now.request.trace in
    let lines = trace_of c.args.run.now.request run (events_to c.args.stop run) in
    let old = g.F.Folder.files c.args.folder.now in
    let new = g.F.Folder.files c.run_image.new.folder in
    rw c.in-None.is
    (on_ok c.run_image.result (λ _. Traces trace lines old new) _ (λ _ wrote. ([], tt, grows_traced trace lines old new wrote))
    c.run_image.ensures.files)
