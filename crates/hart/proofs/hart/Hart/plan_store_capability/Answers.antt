use Rattle.std.proofs.Common.{◌≡◌, None, Some, ◌∙◌, ap}
use Rattle.steps.specs.MemoryRows.{place_of, authority_of, authority_number_of, capability_at, store_capability_done}
use Rattle.steps.specs.RowEffects.{store_capability_effect}
use Rattle.base.specs.declared.cause.Cause.TheVariants as cause
use Rattle.cap_checks.specs.Access.{stored_of}
use Rattle.registers.specs.Registers.{register}
use Rattle.cap_checks.specs.FirstFault.{access_fault}
use Rattle.cap_checks.specs.declared.access.Access.{Access}
use Rattle.cap_checks.specs.declared.access.Access.TheVariants as access
use Rattle.steps.specs.AskedLaws.{access_asked-allowed, access_asked-refused}
use Rattle.steps.specs.State.{State}
use Rattle.hart.proofs.hart.Hart.plan_store_capability.Goals as goal

pub returns-in-Ok-clause-effect : goal.returns-in-Ok-clause-effect
unfolding store_capability_effect
returns-in-Ok-clause-effect g c =
    let insn = c.args.insn in
    let s : State = c.args.self.now in
    let value = c.get-value.ensures.value ∙ ap (λ (k : State). register k.registers insn.rs2) c.self.view_is in
    let a : Access = access.StoreCapability (stored_of (register s.registers insn.rs2)) in
    let none : access_fault (authority_of insn s) (authority_number_of insn s) a (place_of insn s) ≡ None =
    rw (c.of.ensures, value, c.authority-through.ensures.capability, c.authority-through.ensures.register, c.place.ensures)
    at c.in-Ok.ensures.allowed in
    c.plan_mapped_capability_store.ensures.effect
    ∙ rw (c.in-Ok.ensures.value, c.place.ensures, value)
    (access_asked-allowed a (capability_at cause.StoreAccess (place_of insn s) s)
    insn s (store_capability_done (place_of insn s) (register s.registers insn.rs2)) none)

pub returns-in-Err-clause-effect : goal.returns-in-Err-clause-effect
unfolding store_capability_effect
returns-in-Err-clause-effect g c =
    let insn = c.args.insn in
    let s : State = c.args.self.now in
    let value = c.get-value.ensures.value ∙ ap (λ (k : State). register k.registers insn.rs2) c.self.view_is in
    let a : Access = access.StoreCapability (stored_of (register s.registers insn.rs2)) in
    let some : access_fault (authority_of insn s) (authority_number_of insn s) a (place_of insn s) ≡ Some c.in-Err.fault =
    rw (c.of.ensures, value, c.authority-through.ensures.capability, c.authority-through.ensures.register, c.place.ensures)
    at c.in-Err.ensures.refused in
    access_asked-refused a (capability_at cause.StoreAccess (place_of insn s) s)
    insn s (store_capability_done (place_of insn s) (register s.registers insn.rs2)) c.in-Err.fault some
