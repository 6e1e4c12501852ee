use Rattle.std.proofs.Common.{ap, ◌∙◌}
use Rattle.steps.specs.Looks.{number_in}
use Rattle.steps.specs.State.{State}
use Rattle.hart.proofs.hart.Hart.number.Goals as goal

pub returns : goal.returns
returns g c = c.number.ensures ∙ ap (λ (s : State). number_in s c.args.n) c.self.view_is
