use Rattle.std.proofs.Common.{sym, ap, ◌∙◌}
use Rattle.cap_bounds.specs.CapValue.{value_address}
use Rattle.cap_checks.specs.FirstFault.{jump_target}
use Rattle.steps.specs.State.{pc_of}
use Rattle.hart.proofs.hart.Hart.branch_asked.Goals as goal

pub returns : goal.returns
returns g c =
    let asked = rw (c.number.ensures, c.number-2.ensures) at c.branch_taken.ensures in
    let taken = sym asked ∙ c.if-not-branch_taken.false in
    let pc = c.address.ensures ∙ ap value_address c.pcc.ensures.value ∙ ap pc_of c.self.view_is in
    let target = c.jump_target.ensures ∙ ap (λ a. jump_target a c.args.insn.imm) pc in
    rw taken (rw target at c.target_asked.ensures)
