use Rattle.std.proofs.Common.{sym, subst}
use Rattle.steps.specs.State.{HoldsCapabilities}
use Rattle.hart.proofs.hart.Hart.try_clone.Goals as goal

pub invariant_of-result : goal.invariant_of-result
invariant_of-result g c = subst HoldsCapabilities (sym c.in_ok-memory.ensures) c.self.invariant
