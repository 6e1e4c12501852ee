use Rattle.std.proofs.Common.{sym, ap, ◌∙◌}
use Rattle.machine.specs.Run.{run_after, run_sent}
use Rattle.machine.proofs.Steps.{BeginWithSteps-take}
use Rattle.machine.proofs.machine.Machine.meet_first.Goals as goal

pub returns-clause-state : goal.returns-clause-state
returns-clause-state g c =
    c.advance.ensures.state
    ∙ ap (λ es. run_after es c.args.self.now)
    (sym (BeginWithSteps-take c.advance.result.steps c.args.steps c.args.events.now c.advance.ensures.few c.requires.steps))

pub returns-clause-bytes : goal.returns-clause-bytes
returns-clause-bytes g c =
    ap (λ es. run_sent es c.args.self.now)
    (BeginWithSteps-take c.advance.result.steps c.args.steps c.args.events.now c.advance.ensures.few c.requires.steps)
    ∙ c.advance.ensures.bytes
