use Rattle.std.proofs.Common.{ap, ◌∙◌}
use Rattle.registers.specs.Registers.{register}
use Rattle.steps.specs.State.{State}
use Rattle.hart.proofs.hart.Hart.jump_asked.Goals as goal

pub returns : goal.returns
returns g c =
    let entry = c.get-entry.ensures.value ∙ ap (λ (s : State). register s.registers c.args.insn.rs1) c.self.view_is in
    rw (c.jump_conditions.ensures, entry, c.from.ensures) at c.from_slice.ensures.items
