use Rattle.std.proofs.Common.{◌≡◌, None, Some, ◌∙◌}
use Rattle.steps.specs.MemoryRows.{place_of, authority_of, authority_number_of, loads_from, load_done}
use Rattle.steps.specs.RowEffects.{load_effect}
use Rattle.steps.specs.Accesses.{size_of}
use Rattle.cap_checks.specs.FirstFault.{access_fault}
use Rattle.cap_checks.specs.declared.access.Access.{Access}
use Rattle.cap_checks.specs.declared.access.Access.TheVariants as access
use Rattle.steps.specs.AskedLaws.{access_asked-allowed, access_asked-refused}
use Rattle.steps.specs.State.{State}
use Rattle.hart.proofs.hart.Hart.plan_load.Goals as goal

pub returns-in-Ok-clause-effect : goal.returns-in-Ok-clause-effect
unfolding load_effect
returns-in-Ok-clause-effect g c =
    let insn = c.args.insn in
    let s : State = c.args.self.now in
    let a : Access = access.Load (size_of insn.row) in
    let none : access_fault (authority_of insn s) (authority_number_of insn s) a (place_of insn s) ≡ None =
    rw (c.size_of-size.ensures, c.authority-through.ensures.capability, c.authority-through.ensures.register, c.place.ensures)
    at c.in-Ok.ensures.allowed in
    c.plan_mapped_load.ensures.effect
    ∙ rw (c.in-Ok.ensures.value, c.place.ensures, c.size_of-size.ensures)
    (access_asked-allowed a (loads_from (place_of insn s) (size_of insn.row) s)
    insn s (load_done insn (place_of insn s) (size_of insn.row) s) none)

pub returns-in-Err-clause-effect : goal.returns-in-Err-clause-effect
unfolding load_effect
returns-in-Err-clause-effect g c =
    let insn = c.args.insn in
    let s : State = c.args.self.now in
    let a : Access = access.Load (size_of insn.row) in
    let some : access_fault (authority_of insn s) (authority_number_of insn s) a (place_of insn s) ≡ Some c.in-Err.fault =
    rw (c.size_of-size.ensures, c.authority-through.ensures.capability, c.authority-through.ensures.register, c.place.ensures)
    at c.in-Err.ensures.refused in
    access_asked-refused a (loads_from (place_of insn s) (size_of insn.row) s)
    insn s (load_done insn (place_of insn s) (size_of insn.row) s) c.in-Err.fault some
