use Rattle.std.proofs.Common.{◌≡◌, None, sym, subst, rules}
use Rattle.tagged_memory.specs.Memory.{place_fault}
use Rattle.steps.specs.State.{State, HoldsCapabilities}
use Rattle.steps.specs.StateLaws.{HoldsCapabilities-value_stored}
use Rattle.hart.proofs.hart.Hart.put_capability.Goals as goal

pub invariant_of-self : goal.invariant_of-self
invariant_of-self g c =
    let store = c.args.store in
    let value = store.value in
    let memory = c.self.inside.memory in
    let allowed : place_fault memory store.address 16 ≡ None = subst (λ (s : State). place_fault s.memory store.address 16 ≡ None)
    (sym c.self.view_is) c.requires in
    let stored = rw (c.word.ensures.value, c.tag.ensures) at c.store_cap.ensures.value in
    subst HoldsCapabilities (sym stored)
    (HoldsCapabilities-value_stored memory store.address (g.C.CapRep.value value) c.store_cap.ensures.was_sound allowed
    (g.met.C.CapRep.valid value) c.self.invariant)

pub returns : goal.returns
returns g c = search rules
