use Rattle.std.proofs.Common.{◌≡◌, sym, ap, ◌∙◌}
use Rattle.cap_bounds.specs.CapValue.{CapValue}
use Rattle.cap_insns.specs.CapabilityRows.{row_value}
use Rattle.isa_rows.specs.declared.operands.Insn.{Insn}
use Rattle.steps.specs.Applying.{CanApply}
use Rattle.steps.specs.ComputeRows.{written_by, capability_effect}
use Rattle.registers.specs.Registers.{register}
use Rattle.steps.specs.State.{State}
use Rattle.steps.specs.declared.effect.Effect.TheVariants.{Write, Unseal}
use Rattle.steps.proofs.Plans.{written_by-other}
use Rattle.hart.proofs.hart.Hart.plan_capability.Goals as goal

abbrev value_in : Insn → State → CapValue
value_in insn s = row_value insn.row insn (register s.registers insn.rs1) (register s.registers insn.rs2) s.scrs.ddc

value_from : (insn : Insn) (s u : State) (v a b d : CapValue) → v ≡ row_value insn.row insn a b d → a ≡ register s.registers insn.rs1
    → b ≡ register s.registers insn.rs2 → d ≡ s.scrs.ddc → s ≡ u → v ≡ value_in insn u
value_from insn s u v a b d is first second ddc same =
    is ∙ ap (λ k. row_value insn.row insn k b d) first ∙ ap (λ k. row_value insn.row insn (register s.registers insn.rs1) k d) second
    ∙ ap (row_value insn.row insn (register s.registers insn.rs1) (register s.registers insn.rs2)) ddc ∙ ap (value_in insn) same

pub cap_op-value-requires : goal.cap_op-value-requires
cap_op-value-requires g c = c.requires.kind

pub returns-in-CUnseal-clause-effect : goal.returns-in-CUnseal-clause-effect
unfolding capability_effect
returns-in-CUnseal-clause-effect g c =
    let insn = c.args.insn in
    ap (λ (v : CapValue). Unseal (record { rd = insn.rd; value = v }))
    (value_from insn _ c.args.self.now _ _ _ _ c.cap_op-value.ensures.value c.get-cs1.ensures.value c.get-cs2.ensures.value c.ddc.ensures
    c.self.view_is)
    ∙ ap (λ row. written_by row insn.rd (value_in insn c.args.self.now)) (sym c.in-CUnseal.is)

pub returns-in-CUnseal-clause-can : goal.returns-in-CUnseal-clause-can
unfolding CanApply
returns-in-CUnseal-clause-can g c = c.requires.registers.0

pub returns-in_default : goal.returns-in_default
unfolding capability_effect CanApply
returns-in_default g c =
    let insn = c.args.insn in
    record {
      effect = ap (λ (v : CapValue). Write (record { rd = insn.rd; value = v }))
          (value_from insn _ c.args.self.now _ _ _ _ c.cap_op-value.ensures.value c.get-cs1.ensures.value c.get-cs2.ensures.value
          c.ddc.ensures c.self.view_is)
          ∙ sym (written_by-other insn.row insn.rd (value_in insn c.args.self.now) c.in_default.not-CUnseal);
      can = c.requires.registers.0;
    }
