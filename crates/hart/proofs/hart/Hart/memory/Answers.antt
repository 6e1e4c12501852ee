use Rattle.std.proofs.Common.{subst}
use Rattle.steps.specs.State.{HoldsCapabilities}
use Rattle.hart.proofs.hart.Hart.memory.Goals as goal

pub returns-clause-well_formed : goal.returns-clause-well_formed
returns-clause-well_formed g c = subst (λ s. HoldsCapabilities s.memory) c.self.view_is c.self.invariant
