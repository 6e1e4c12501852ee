use Rattle.std.proofs.Common.{sym, subst}
use Rattle.tagged_memory.specs.Memory.{IsMemory}
use Rattle.steps.specs.State.{State, HoldsCapabilities}
use Rattle.steps.proofs.Written.{filled}
use Rattle.hart.proofs.hart.Hart.set_bytes.Goals as goal

pub invariant_of-self : goal.invariant_of-self
invariant_of-self g c = subst HoldsCapabilities (sym c.in_err-fill.ensures.err) c.self.invariant

pub invariant_of-self-2 : goal.invariant_of-self-2
invariant_of-self-2 g c =
    filled c.self.inside.memory _ c.args.address (subst (λ (s : State). IsMemory s.memory) (sym c.self.view_is) c.is_state.ensures.memory)
    c.self.invariant _ c.args.bytes.now c.in_ok-fill.ensures.which c.in_ok-fill.ensures.ok
