use Rattle.std.proofs.Common.{◌-◌, ap, subst, ◌∙◌}
use Rattle.std.specs.Io.KnownBytes.{Appends}
use Rattle.machine.specs.Run.{run_after, run_sent}
use Rattle.schedules.specs.Schedule.{byte_before, first_steps, steps_in, up_to_halt}
use Rattle.sim_run.specs.Trace.{lines_past, says_of, WasCut}
use Rattle.schedules.proofs.Events.{brought}
use Rattle.sim_run.proofs.FirstSteps.{first_scheduled, end-then, lines-then, sent-then, state-then, steps-then, traced-then}
use Rattle.sim_run.proofs.before.trace_to.Goals as goal

pub returns-in-Ok-clause-state : goal.returns-in-Ok-clause-state
returns-in-Ok-clause-state g c =
    let s = c.args.machine.now in
    let t = c.run_traced.new.machine in
    let k = c.args.number - 1 in
    let same = first_scheduled c.first-first.result c.args.schedule c.args.input.now k s c.first-first.ensures.value in
    state-then (up_to_halt (first_steps c.args.schedule c.args.input.now k) s)
    (byte_before c.args.schedule c.args.input.now c.args.number) s t c.bring.new.machine
    (c.in-Ok.ensures.state ∙ ap (λ es. run_after es s) same)
    (c.bring.ensures ∙ ap (λ byte. run_after (brought byte) t) c.byte_before.ensures)

pub returns-in-Ok-clause-bytes : goal.returns-in-Ok-clause-bytes
returns-in-Ok-clause-bytes g c =
    let s = c.args.machine.now in
    let k = c.args.number - 1 in
    let same = first_scheduled c.first-first.result c.args.schedule c.args.input.now k s c.first-first.ensures.value in
    sent-then (up_to_halt (first_steps c.args.schedule c.args.input.now k) s)
    (byte_before c.args.schedule c.args.input.now c.args.number) s _ _
    (subst (λ es. Appends (g.W.Sink.held c.args.sink.now) (g.W.Sink.held c.run_traced.new.sink) (run_sent es s)) same
    c.in-Ok.ensures.bytes)

pub returns-in-Ok-clause-lines : goal.returns-in-Ok-clause-lines
returns-in-Ok-clause-lines g c =
    let s = c.args.machine.now in
    let k = c.args.number - 1 in
    let same = first_scheduled c.first-first.result c.args.schedule c.args.input.now k s c.first-first.ensures.value in
    lines-then (up_to_halt (first_steps c.args.schedule c.args.input.now k) s)
    (byte_before c.args.schedule c.args.input.now c.args.number) s (says_of c.args.form) c.args.form.skipped _ _
    (subst
    (λ es. Appends (g.T.Sink.held c.args.trace.now) (g.T.Sink.held c.run_traced.new.trace)
    (lines_past (says_of c.args.form) c.args.form.skipped 0 es s)) same
    c.in-Ok.ensures.lines)

pub returns-in-Ok-clause-end : goal.returns-in-Ok-clause-end
returns-in-Ok-clause-end g c =
    let t = c.run_traced.new.machine in
    end-then (byte_before c.args.schedule c.args.input.now c.args.number) t c.bring.new.machine _
    (c.bring.ensures ∙ ap (λ byte. run_after (brought byte) t) c.byte_before.ensures) c.in-Ok.ensures.end

pub returns-in-Ok-clause-steps : goal.returns-in-Ok-clause-steps
returns-in-Ok-clause-steps g c =
    let s = c.args.machine.now in
    let k = c.args.number - 1 in
    let same = first_scheduled c.first-first.result c.args.schedule c.args.input.now k s c.first-first.ensures.value in
    steps-then (up_to_halt (first_steps c.args.schedule c.args.input.now k) s)
    (byte_before c.args.schedule c.args.input.now c.args.number) s _ (c.in-Ok.ensures.steps ∙ ap steps_in same)

pub returns-in-Err-clause-cut : goal.returns-in-Err-clause-cut
returns-in-Err-clause-cut g c =
    let s = c.args.machine.now in
    let k = c.args.number - 1 in
    let same = first_scheduled c.first-first.result c.args.schedule c.args.input.now k s c.first-first.ensures.value in
    traced-then (up_to_halt (first_steps c.args.schedule c.args.input.now k) s)
    (byte_before c.args.schedule c.args.input.now c.args.number) s (says_of c.args.form) c.args.form.skipped c.in-Err.fault
    c.run_traced.new.machine _ _ _ _
    (subst
    (λ es. WasCut (says_of c.args.form) c.in-Err.fault c.args.form.skipped 0 es s c.run_traced.new.machine (g.W.Sink.held c.args.sink.now)
    (g.W.Sink.held c.run_traced.new.sink) (g.T.Sink.held c.args.trace.now) (g.T.Sink.held c.run_traced.new.trace))
    same c.in-Err.ensures.cut)
