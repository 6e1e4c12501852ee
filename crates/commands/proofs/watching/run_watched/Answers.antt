use Rattle.std.proofs.lemmas.Result.{err_from_is_err_and}
use Rattle.commands.specs.RunFaults.FailsWatched.{stopped as fails_stopped}
use Rattle.std.proofs.Common.{◌∙◌, ap, subst}
use Rattle.machine.specs.Run.{end_of}
use Rattle.commands.specs.Loading.{run_of}
use Rattle.commands.specs.Watching.{IsStopOf, stopped}
use Rattle.commands.proofs.watching.run_watched.Goals as goal

pub returns-in_ok-ran-in-Some-clause-ok : goal.returns-in_ok-ran-in-Some-clause-ok
returns-in_ok-ran-in-Some-clause-ok g c =
    let run = c.args.run.now in
    let left = c.in_ok-ran-in-Some.ensures in
    let stops = IsStopOf c.args.rules.now (run_of run) run.request.json run.request.quiet in
    stopped c.in-Some.stop.number (subst stops c.in-Some.is c.in_ok-stop.ensures.ok)
    (record { sent = left.sent; written = left.files; end = left.ran.end ∙ ap end_of left.ran.state })

pub returns-in_err-ran-in-Some-clause-err : goal.returns-in_err-ran-in-Some-clause-err
returns-in_err-ran-in-Some-clause-err g c =
    let p = err_from_is_err_and c.from_residual-in_err-ran-in-Some.result c.from_residual-in_err-ran-in-Some.ensures.1 in
    let run = c.args.run.now in
    let stops = IsStopOf c.args.rules.now (run_of run) run.request.json run.request.quiet in
    rw (p.1, p.2)
    (fails_stopped c.in-Some.stop.number _ (subst stops c.in-Some.is c.in_ok-stop.ensures.ok) c.in_err-ran-in-Some.ensures.err)
