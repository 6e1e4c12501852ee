use Rattle.std.proofs.Common.{◌≡◌, None, Some, ◌∙◌}
use Rattle.steps.specs.MemoryRows.{place_of, authority_of, authority_number_of, stores_to, store_done}
use Rattle.steps.specs.RowEffects.{store_effect}
use Rattle.steps.specs.Accesses.{size_of}
use Rattle.steps.specs.Looks.{number_in}
use Rattle.cap_checks.specs.FirstFault.{access_fault}
use Rattle.cap_checks.specs.declared.access.Access.{Access}
use Rattle.cap_checks.specs.declared.access.Access.TheVariants as access
use Rattle.steps.specs.AskedLaws.{access_asked-allowed, access_asked-refused}
use Rattle.steps.specs.State.{State}
use Rattle.hart.proofs.hart.Hart.plan_store.Goals as goal

pub returns-in-Ok-clause-effect : goal.returns-in-Ok-clause-effect
unfolding store_effect
returns-in-Ok-clause-effect g c =
    let insn = c.args.insn in
    let s : State = c.args.self.now in
    let a : Access = access.Store (size_of insn.row) in
    let none : access_fault (authority_of insn s) (authority_number_of insn s) a (place_of insn s) ≡ None =
    rw (c.size_of-size.ensures, c.authority-through.ensures.capability, c.authority-through.ensures.register, c.place.ensures)
    at c.in-Ok.ensures.allowed in
    c.plan_mapped_store.ensures.effect
    ∙ rw (c.in-Ok.ensures.value, c.place.ensures, c.size_of-size.ensures, c.number.ensures)
    (access_asked-allowed a (stores_to (place_of insn s) (size_of insn.row) s)
    insn s (store_done (place_of insn s) (size_of insn.row) (number_in s insn.rs2) s) none)

pub returns-in-Err-clause-effect : goal.returns-in-Err-clause-effect
unfolding store_effect
returns-in-Err-clause-effect g c =
    let insn = c.args.insn in
    let s : State = c.args.self.now in
    let a : Access = access.Store (size_of insn.row) in
    let some : access_fault (authority_of insn s) (authority_number_of insn s) a (place_of insn s) ≡ Some c.in-Err.fault =
    rw (c.size_of-size.ensures, c.authority-through.ensures.capability, c.authority-through.ensures.register, c.place.ensures)
    at c.in-Err.ensures.refused in
    access_asked-refused a (stores_to (place_of insn s) (size_of insn.row) s)
    insn s (store_done (place_of insn s) (size_of insn.row) (number_in s insn.rs2) s) c.in-Err.fault some
