use Rattle.std.proofs.Common.{◌≡◌, ◌+◌, ◌%◌, ◌^◌, Bool, sym, ap, ◌∙◌}
use Rattle.std.specs.Prelude.{if◌then◌else◌}
use Rattle.cap_bounds.specs.CapValue.{CapValue, value_address, value_flag, integer}
use Rattle.cap_bounds.specs.SetAddress.{at_address}
use Rattle.steps.specs.Applying.{CanApply}
use Rattle.steps.specs.ComputeRows.{auipc_effect}
use Rattle.steps.specs.State.{State, pc_of}
use Rattle.steps.specs.declared.effect.Effect.TheVariants.{Write}
use Rattle.hart.proofs.hart.Hart.plan_auipc.Goals as goal
use Rattle.hart.proofs.hart.Hart.plan_auipc.Goals.{then-flag, else-flag}

pub returns-clause-effect : goal.returns-clause-effect
unfolding auipc_effect
returns-clause-effect g c =
    let insn = c.args.insn in
    let s = c.args.self.now in
    let pcc = c.pcc-pcc.ensures.value ∙ ap (λ (k : State). k.scrs.pcc) c.self.view_is in
    let here = ap (λ a. (a + insn.imm) % 2 ^ 64) (c.address.ensures ∙ ap value_address pcc) in
    let flag = c.flag.ensures ∙ ap value_flag pcc in
    let in_mode = λ (flag : Bool). if flag then at_address s.scrs.pcc ((pc_of s + insn.imm) % 2 ^ 64) else integer
    ((pc_of s + insn.imm) % 2 ^ 64) in
    let value : g.C.CapRep.value c.if-flag.result ≡ in_mode (value_flag s.scrs.pcc) = elim c.if-flag.branch [
      | then-flag w ↦ ap g.C.CapRep.value w.result-is ∙ w.set_address.ensures
          ∙ ap (λ v. at_address v ((c.address.result + insn.imm) % 2 ^ 64)) pcc
          ∙ ap (at_address s.scrs.pcc) here ∙ ap in_mode (sym w.if-flag.true ∙ flag)
      | else-flag w ↦ ap g.C.CapRep.value w.result-is ∙ w.integer.ensures ∙ ap integer here ∙ ap in_mode (sym w.if-flag.false ∙ flag)
    ] in
    ap (λ (v : CapValue). Write (record { rd = insn.rd; value = v })) value

pub returns-clause-can : goal.returns-clause-can
unfolding CanApply
returns-clause-can g c = c.requires.registers.0
