use Rattle.commands.specs.RunFaults.FailsTraced.{unsent}
use Rattle.sim_run.specs.Trace.{says_by}
use Rattle.commands.proofs.Failing.{closed_cut, past_cut}
use Rattle.commands.proofs.Filing.{gains_closed}
use Rattle.commands.proofs.running.trace_machine.Goals as goal

pub returns-in-Ok-clause-files : goal.returns-in-Ok-clause-files
returns-in-Ok-clause-files g c =
    let lines = rw (c.new-lines.ensures.held, c.in_ok-machine.ensures.ok, c.deref.ensures.value) at c.in-Ok.ensures.lines in
    gains_closed _ _ _ c.args.trace.name.now _ _ _ c.in_ok-make_trace.ensures.files c.in_ok-make_trace.ensures.empty lines
    (rw c.into_inner.ensures at c.in_ok-close_trace-in-Ok.ensures.ok)

pub returns-in-Err-Output-clause-err : goal.returns-in-Err-Output-clause-err
returns-in-Err-Output-clause-err g c =
    let stopped = c.in-Err-Output in
    let cut = rw (c.new-lines.ensures.held, c.in_ok-machine.ensures.ok, c.deref.ensures.value, stopped.field-0-is) at stopped.ensures.cut in
    let past = past_cut (says_by c.args.run.now.request.json c.args.run.now.table) c.args.trace.skipped _ cut.done cut.last cut.rest _
    cut.order in
    unsent tt
    (closed_cut c.close_trace-in-Err-Output.result _ _ _ c.args.trace.name.now _ _ past.0 _ _ c.in_ok-make_trace.ensures.files
    c.in_ok-make_trace.ensures.empty cut.lines past.1 (rw c.into_inner-in-Err-Output.ensures at c.close_trace-in-Err-Output.ensures.ok)
    c.close_trace-in-Err-Output.ensures.err)
