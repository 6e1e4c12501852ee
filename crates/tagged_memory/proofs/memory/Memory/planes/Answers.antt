use Rattle.std.proofs.Common.{subst, sym}
use Rattle.tagged_memory.specs.Planes.{ArePlanes}
use Rattle.tagged_memory.proofs.Sound.{are_planes}
use Rattle.tagged_memory.proofs.memory.Memory.planes.Goals as goal

pub returns : goal.returns
returns c =
    subst (λ planes. ArePlanes planes c.args.self.now) (sym c.as_slice.ensures.value) (are_planes _ _ c.self.view_is c.self.invariant)
