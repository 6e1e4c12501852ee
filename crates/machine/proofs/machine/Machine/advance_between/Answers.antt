use Rattle.std.proofs.Common.{◌<◌, ◌≤◌, sym, ap, subst, ◌∙◌}
use Rattle.std.specs.Prelude.{None}
use Rattle.steps.specs.State.{pc_of}
use Rattle.steps.specs.Steps.{steps_after, AreQuiet, GoesBy}
use Rattle.machine.proofs.Steps.{run_after-steps, run_sent-none}
use Rattle.machine.proofs.machine.Machine.advance_between.Goals as goal

pub returns-clause-state : goal.returns-clause-state
returns-clause-state g c =
    c.advance_between.ensures.state ∙ ap (steps_after c.advance_between.result) c.self.view_is
    ∙ sym (run_after-steps c.advance_between.result c.args.self.now)

pub returns-clause-silent : goal.returns-clause-silent
returns-clause-silent g c =
    let steps = c.advance_between.result in
    let quiet = subst (AreQuiet steps) c.self.view_is c.advance_between.ensures.quiet in
    run_sent-none steps c.args.self.now quiet.silent

pub returns-clause-goes : goal.returns-clause-goes
returns-clause-goes g c = λ k below.
    subst (GoesBy None)
    (ap (steps_after k) c.self.view_is ∙ sym (run_after-steps k c.args.self.now))
    (c.advance_between.ensures.goes k below)

pub returns-clause-low : goal.returns-clause-low
returns-clause-low g c = λ k below.
    subst (λ s. c.args.low ≤ pc_of s)
    (ap (steps_after k) c.self.view_is ∙ sym (run_after-steps k c.args.self.now))
    (c.advance_between.ensures.low k below)

pub returns-clause-high : goal.returns-clause-high
returns-clause-high g c = λ k below.
    subst (λ s. pc_of s < c.args.high)
    (ap (steps_after k) c.self.view_is ∙ sym (run_after-steps k c.args.self.now))
    (c.advance_between.ensures.high k below)
