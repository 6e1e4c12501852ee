use Rattle.std.proofs.Common.{◌≡◌, sym, ap, ◌∙◌}
use Rattle.alu.specs.Integer.{int_result}
use Rattle.cap_bounds.specs.CapValue.{CapValue, integer}
use Rattle.isa_rows.specs.Line.{line_of}
use Rattle.steps.specs.Applying.{CanApply}
use Rattle.steps.specs.ComputeRows.{second_of, integer_effect}
use Rattle.steps.specs.Looks.{number_in}
use Rattle.steps.specs.declared.effect.Effect.TheVariants.{Write}
use Rattle.steps.proofs.Plans.{second_of-immediate}
use Rattle.hart.proofs.hart.Hart.plan_integer.Goals as goal
use Rattle.hart.proofs.hart.Hart.plan_integer.Goals.{in-Register, in_default}

pub int_op-requires : goal.int_op-requires
int_op-requires g c = c.requires.kind

pub returns-clause-effect : goal.returns-clause-effect
unfolding integer_effect
returns-clause-effect g c =
    let insn = c.args.insn in
    let s = c.args.self.now in
    let second : c.match-format.b ≡ second_of s insn (line_of insn.row).format = elim c.match-format.branch [
      | in-Register w ↦ w.b-is ∙ w.number-b.ensures ∙ ap (second_of s insn) (sym w.in-Register.is ∙ c.format.ensures)
      | in_default w ↦ w.b-is ∙ second_of-immediate s insn c.format.result w.in_default.not-Register
          ∙ ap (second_of s insn) c.format.ensures
    ] in
    ap (λ (v : CapValue). Write (record { rd = insn.rd; value = v }))
    (c.integer.ensures ∙ ap integer (c.int_op.ensures
    ∙ ap (λ a. int_result insn.row a c.match-format.b) c.number-a.ensures
    ∙ ap (int_result insn.row (number_in s insn.rs1)) second))

pub returns-clause-can : goal.returns-clause-can
unfolding CanApply
returns-clause-can g c = c.requires.registers.0
