use Rattle.std.proofs.Common.{◌-◌, ap, ◌∙◌}
use Rattle.machine.specs.Run.{run_after}
use Rattle.schedules.specs.Schedule.{byte_before, first_steps, up_to_halt}
use Rattle.schedules.proofs.Events.{brought}
use Rattle.sim_run.proofs.FirstSteps.{cut-then, end-then, sent-then, state-then, steps-then}
use Rattle.sim_run.proofs.before.run_to.Goals as goal

pub returns-in-Ok-clause-state : goal.returns-in-Ok-clause-state
returns-in-Ok-clause-state g c =
    let s = c.args.machine.now in
    let t = c.skip.new.machine in
    state-then (up_to_halt (first_steps c.args.schedule c.args.input.now (c.args.number - 1)) s)
    (byte_before c.args.schedule c.args.input.now c.args.number) s t c.bring.new.machine c.in-Ok.ensures.state
    (c.bring.ensures ∙ ap (λ byte. run_after (brought byte) t) c.byte_before.ensures)

pub returns-in-Ok-clause-bytes : goal.returns-in-Ok-clause-bytes
returns-in-Ok-clause-bytes g c =
    let s = c.args.machine.now in
    sent-then (up_to_halt (first_steps c.args.schedule c.args.input.now (c.args.number - 1)) s)
    (byte_before c.args.schedule c.args.input.now c.args.number) s _ _ c.in-Ok.ensures.bytes

pub returns-in-Ok-clause-end : goal.returns-in-Ok-clause-end
returns-in-Ok-clause-end g c =
    let t = c.skip.new.machine in
    end-then (byte_before c.args.schedule c.args.input.now c.args.number) t c.bring.new.machine _
    (c.bring.ensures ∙ ap (λ byte. run_after (brought byte) t) c.byte_before.ensures) c.in-Ok.ensures.end

pub returns-in-Ok-clause-steps : goal.returns-in-Ok-clause-steps
returns-in-Ok-clause-steps g c =
    let s = c.args.machine.now in
    steps-then (up_to_halt (first_steps c.args.schedule c.args.input.now (c.args.number - 1)) s)
    (byte_before c.args.schedule c.args.input.now c.args.number) s _ c.in-Ok.ensures.steps

pub returns-in-Err-clause-cut : goal.returns-in-Err-clause-cut
returns-in-Err-clause-cut g c =
    let s = c.args.machine.now in
    cut-then (up_to_halt (first_steps c.args.schedule c.args.input.now (c.args.number - 1)) s)
    (byte_before c.args.schedule c.args.input.now c.args.number) s c.skip.new.machine _ _ c.in-Err.ensures.cut
