use Rattle.std.proofs.Common.{add-one, sym, ap, ◌∙◌, arith}
use Rattle.steps.specs.Step.{stepped}
use Rattle.steps.specs.Steps.{steps_after}
use Rattle.hart.proofs.hart.Hart.advance.Goals as goal

pub returns-clause-state : goal.returns-clause-state
returns-clause-state g c =
    c.step-byte.ensures.state ∙ ap stepped c.in-Quietly.ensures.state
    ∙ ap (λ n. steps_after n c.args.self.now) (sym (add-one c.in-Quietly.steps))

pub returns-clause-byte : goal.returns-clause-byte
returns-clause-byte g c = grind arith
