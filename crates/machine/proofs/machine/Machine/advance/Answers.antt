use Rattle.std.proofs.Common.{◌-◌, sym, ap, subst, ◌∙◌, arith}
use Rattle.std.specs.Prelude.{option_to_list}
use Rattle.steps.specs.State.{State}
use Rattle.steps.specs.Step.{step_sent}
use Rattle.steps.specs.Steps.{steps_after, AreQuiet}
use Rattle.machine.proofs.Steps.{run_after-steps, run_sent-steps, run_sent-none}
use Rattle.machine.proofs.machine.Machine.advance.Goals as goal

pub returns-clause-state : goal.returns-clause-state
returns-clause-state g c =
    c.advance.ensures.state ∙ ap (steps_after c.advance.result.steps) c.self.view_is
    ∙ sym (run_after-steps c.advance.result.steps c.args.self.now)

pub returns-clause-bytes : goal.returns-clause-bytes
returns-clause-bytes g c =
    let steps = c.advance.result.steps in
    let quiet = subst (AreQuiet (steps - 1)) c.self.view_is c.advance.ensures.quiet in
    run_sent-steps steps c.args.self.now c.advance.ensures.some quiet.silent
    ∙ ap option_to_list (sym (c.advance.ensures.byte ∙ ap (λ s. step_sent (steps_after (steps - 1) s)) c.self.view_is))

pub returns-clause-silent : goal.returns-clause-silent
returns-clause-silent g c =
    let steps = c.advance.result.steps in
    let quiet = subst (AreQuiet (steps - 1)) c.self.view_is c.advance.ensures.quiet in
    run_sent-none (steps - 1) c.args.self.now quiet.silent

pub returns-clause-devices : goal.returns-clause-devices
returns-clause-devices g c = λ k below.
    let steps = c.advance.result.steps in
    let quiet = subst (AreQuiet (steps - 1)) c.self.view_is c.advance.ensures.quiet in
    ap (λ (s : State). s.devices) (run_after-steps k c.args.self.now) ∙ quiet.devices k (omega arith)
