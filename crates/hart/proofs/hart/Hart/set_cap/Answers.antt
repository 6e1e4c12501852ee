use Rattle.std.proofs.Common.{sym, subst}
use Rattle.tagged_memory.specs.Memory.{IsMemory}
use Rattle.steps.specs.State.{State, HoldsCapabilities}
use Rattle.steps.proofs.Written.{put}
use Rattle.hart.proofs.hart.Hart.set_cap.Goals as goal

pub invariant_of-self : goal.invariant_of-self
invariant_of-self g c = subst HoldsCapabilities (sym c.in_err-write_cap.ensures.err) c.self.invariant

pub invariant_of-self-2 : goal.invariant_of-self-2
invariant_of-self-2 g c =
    let stored = rw (c.word.ensures.value, c.tag.ensures) at c.in_ok-write_cap.ensures.ok in
    put c.self.inside.memory _ c.args.address (subst (λ (s : State). IsMemory s.memory) (sym c.self.view_is) c.is_state.ensures.memory)
    c.self.invariant _ (g.C.CapRep.value c.args.value) (g.met.C.CapRep.valid c.args.value) c.in_ok-write_cap.ensures.which stored
