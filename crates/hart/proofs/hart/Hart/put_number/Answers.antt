use Rattle.std.proofs.Common.{◌≡◌, None, sym, subst}
use Rattle.base.specs.Size.{bytes_of}
use Rattle.tagged_memory.specs.Memory.{place_fault}
use Rattle.steps.specs.State.{State, HoldsCapabilities}
use Rattle.steps.specs.StateLaws.{HoldsCapabilities-stored}
use Rattle.hart.proofs.hart.Hart.put_number.Goals as goal

pub invariant_of-self : goal.invariant_of-self
invariant_of-self g c =
    let store = c.args.store in
    let memory = c.self.inside.memory in
    let allowed : place_fault memory store.address (bytes_of store.size) ≡ None = subst
    (λ (s : State). place_fault s.memory store.address (bytes_of store.size) ≡ None) (sym c.self.view_is) c.requires in
    subst HoldsCapabilities (sym c.store.ensures.value)
    (HoldsCapabilities-stored memory store.address (bytes_of store.size) store.number c.store.ensures.was_sound allowed c.self.invariant)
