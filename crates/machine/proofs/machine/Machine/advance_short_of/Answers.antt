use Rattle.std.proofs.Common.{sym, ap, subst, ◌∙◌}
use Rattle.steps.specs.Steps.{steps_after, AreQuiet, GoesBy}
use Rattle.machine.proofs.Steps.{run_after-steps, run_sent-none}
use Rattle.machine.proofs.machine.Machine.advance_short_of.Goals as goal

pub returns-clause-state : goal.returns-clause-state
returns-clause-state g c =
    c.advance_short_of.ensures.state ∙ ap (steps_after c.advance_short_of.result) c.self.view_is
    ∙ sym (run_after-steps c.advance_short_of.result c.args.self.now)

pub returns-clause-silent : goal.returns-clause-silent
returns-clause-silent g c =
    let steps = c.advance_short_of.result in
    let quiet = subst (AreQuiet steps) c.self.view_is c.advance_short_of.ensures.quiet in
    run_sent-none steps c.args.self.now quiet.silent

pub returns-clause-goes : goal.returns-clause-goes
returns-clause-goes g c = λ k below.
    subst (GoesBy c.args.stop)
    (ap (steps_after k) c.self.view_is ∙ sym (run_after-steps k c.args.self.now))
    (c.advance_short_of.ensures.goes k below)
