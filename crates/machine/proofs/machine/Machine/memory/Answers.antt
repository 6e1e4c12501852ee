use Rattle.std.proofs.Common.{subst}
use Rattle.steps.specs.State.{HoldsCapabilities}
use Rattle.machine.proofs.machine.Machine.memory.Goals as goal

pub returns-clause-well_formed : goal.returns-clause-well_formed
returns-clause-well_formed g c = subst (λ s. HoldsCapabilities s.memory) c.self.view_is c.memory.ensures.well_formed
