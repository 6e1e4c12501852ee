use Rattle.std.proofs.Common.{ap, subst, ◌∙◌}
use Rattle.std.proofs.lemmas.Result.{on_ok_weaker, on_err_weaker, IfOk-weaker}
use Rattle.std.specs.Io.KnownBytes.{Appends}
use Rattle.machine.specs.Run.{run_after, run_sent}
use Rattle.schedules.specs.Schedule.{steps_in, IsCutShort}
use Rattle.sim_run.proofs.FirstSteps.{first_scheduled}
use Rattle.sim_run.proofs.run.skip.Goals as goal

pub returns-clause-state : goal.returns-clause-state
returns-clause-state g c =
    let s = c.args.machine.now in
    let same = first_scheduled c.first-first.result c.args.schedule c.args.input.now c.args.count s c.first-first.ensures.value in
    on_ok_weaker c.run_told.result (λ e. e ∙ ap (λ es. run_after es s) same) c.run_told.ensures.state

pub returns-clause-bytes : goal.returns-clause-bytes
returns-clause-bytes g c =
    let s = c.args.machine.now in
    let same = first_scheduled c.first-first.result c.args.schedule c.args.input.now c.args.count s c.first-first.ensures.value in
    on_ok_weaker c.run_told.result
    (subst (λ es. Appends (g.W.Sink.held c.args.sink.now) (g.W.Sink.held c.run_told.new.sink) (run_sent es s)) same)
    c.run_told.ensures.bytes

pub returns-clause-steps : goal.returns-clause-steps
returns-clause-steps g c =
    let s = c.args.machine.now in
    let same = first_scheduled c.first-first.result c.args.schedule c.args.input.now c.args.count s c.first-first.ensures.value in
    IfOk-weaker c.run_told.result _ _ (λ ran e. e ∙ ap steps_in same) c.run_told.ensures.steps

pub returns-clause-cut : goal.returns-clause-cut
returns-clause-cut g c =
    let s = c.args.machine.now in
    let same = first_scheduled c.first-first.result c.args.schedule c.args.input.now c.args.count s c.first-first.ensures.value in
    on_err_weaker c.run_told.result
    (subst (λ es. IsCutShort es s c.run_told.new.machine (g.W.Sink.held c.args.sink.now) (g.W.Sink.held c.run_told.new.sink)) same)
    c.run_told.ensures.cut
