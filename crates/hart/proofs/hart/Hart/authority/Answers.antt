use Rattle.std.proofs.Common.{◌≡◌, Bool, true, false, sym, ap, ◌∙◌}
use Rattle.cap_bounds.specs.CapValue.{CapValue, value_flag}
use Rattle.isa_rows.specs.declared.rows.Row.{Row}
use Rattle.steps.specs.Accesses.{through_rs1}
use Rattle.steps.specs.MemoryRows.{authority_through, number_through}
use Rattle.registers.specs.Registers.{register}
use Rattle.steps.specs.State.{State}
use Rattle.hart.proofs.hart.Hart.authority.Goals as goal

through : (row : Row) (b flag answer : Bool) (v : CapValue) (s u : State) → answer ≡ b → answer ≡ through_rs1 row flag → flag ≡ value_flag v
    → v ≡ s.scrs.pcc → s ≡ u → b ≡ through_rs1 row (value_flag u.scrs.pcc)
through row b flag answer v s u is by mode pcc same =
    sym is ∙ by ∙ ap (through_rs1 row) (mode ∙ ap value_flag (pcc ∙ ap (λ (k : State). k.scrs.pcc) same))

pub returns-then-through_rs1-clause-capability : goal.returns-then-through_rs1-clause-capability
returns-then-through_rs1-clause-capability g c =
    let insn = c.args.insn in
    c.get.ensures.value ∙ ap (λ (s : State). register s.registers insn.rs1) c.self.view_is
    ∙ ap (λ b. authority_through b insn c.args.self.now)
    (through insn.row true _ _ _ _ c.args.self.now c.if-through_rs1.true
    c.through_rs1.ensures c.flag.ensures c.pcc.ensures.value c.self.view_is)

pub returns-then-through_rs1-clause-register : goal.returns-then-through_rs1-clause-register
returns-then-through_rs1-clause-register g c =
    let insn = c.args.insn in
    c.from.ensures ∙ ap (λ b. number_through b insn)
    (through insn.row true _ _ _ _ c.args.self.now c.if-through_rs1.true
    c.through_rs1.ensures c.flag.ensures c.pcc.ensures.value c.self.view_is)

pub returns-else-through_rs1-clause-capability : goal.returns-else-through_rs1-clause-capability
returns-else-through_rs1-clause-capability g c =
    let insn = c.args.insn in
    c.ddc.ensures ∙ ap (λ (s : State). s.scrs.ddc) c.self.view_is
    ∙ ap (λ b. authority_through b insn c.args.self.now)
    (through insn.row false _ _ _ _ c.args.self.now c.if-through_rs1.false
    c.through_rs1.ensures c.flag.ensures c.pcc.ensures.value c.self.view_is)

pub returns-else-through_rs1-clause-register : goal.returns-else-through_rs1-clause-register
returns-else-through_rs1-clause-register g c =
    let insn = c.args.insn in
    ap (λ b. number_through b insn)
    (through insn.row false _ _ _ _ c.args.self.now c.if-through_rs1.false
    c.through_rs1.ensures c.flag.ensures c.pcc.ensures.value c.self.view_is)
