use Rattle.std.proofs.Common.{ap, ◌∙◌}
use Rattle.registers.specs.Registers.{register}
use Rattle.steps.specs.State.{State}
use Rattle.hart.proofs.hart.Hart.invocation_asked.Goals as goal

pub returns : goal.returns
returns g c =
    let code = c.get-code.ensures.value ∙ ap (λ (s : State). register s.registers c.args.insn.rs1) c.self.view_is in
    let datum = c.get-data.ensures.value ∙ ap (λ (s : State). register s.registers c.args.insn.rs2) c.self.view_is in
    rw (c.invoke_conditions-conditions.ensures, code, datum, c.from.ensures, c.from-2.ensures) at c.from_slice.ensures.items
