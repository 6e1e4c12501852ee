use Rattle.std.proofs.Common.{◌≡◌, None, Some, ◌∙◌}
use Rattle.steps.specs.MemoryRows.{place_of, authority_of, authority_number_of, capability_at, load_capability_done}
use Rattle.steps.specs.RowEffects.{load_capability_effect}
use Rattle.base.specs.declared.cause.Cause.TheVariants as cause
use Rattle.cap_checks.specs.FirstFault.{access_fault}
use Rattle.cap_checks.specs.declared.access.Access.{Access}
use Rattle.cap_checks.specs.declared.access.Access.TheVariants as access
use Rattle.steps.specs.AskedLaws.{access_asked-allowed, access_asked-refused}
use Rattle.steps.specs.State.{State}
use Rattle.hart.proofs.hart.Hart.plan_load_capability.Goals as goal

pub returns-in-Ok-clause-effect : goal.returns-in-Ok-clause-effect
unfolding load_capability_effect
returns-in-Ok-clause-effect g c =
    let insn = c.args.insn in
    let s : State = c.args.self.now in
    let a : Access = access.LoadCapability in
    let none : access_fault (authority_of insn s) (authority_number_of insn s) a (place_of insn s) ≡ None =
    rw (c.authority-through.ensures.capability, c.authority-through.ensures.register, c.place.ensures)
    at c.in-Ok.ensures.allowed in
    c.plan_mapped_capability_load.ensures.effect
    ∙ rw (c.in-Ok.ensures.value, c.place.ensures, c.authority-through.ensures.capability)
    (access_asked-allowed a (capability_at cause.LoadAccess (place_of insn s) s)
    insn s (load_capability_done (authority_of insn s) insn.rd (place_of insn s) s) none)

pub returns-in-Err-clause-effect : goal.returns-in-Err-clause-effect
unfolding load_capability_effect
returns-in-Err-clause-effect g c =
    let insn = c.args.insn in
    let s : State = c.args.self.now in
    let a : Access = access.LoadCapability in
    let some : access_fault (authority_of insn s) (authority_number_of insn s) a (place_of insn s) ≡ Some c.in-Err.fault =
    rw (c.authority-through.ensures.capability, c.authority-through.ensures.register, c.place.ensures)
    at c.in-Err.ensures.refused in
    access_asked-refused a (capability_at cause.LoadAccess (place_of insn s) s)
    insn s (load_capability_done (authority_of insn s) insn.rd (place_of insn s) s) c.in-Err.fault some
