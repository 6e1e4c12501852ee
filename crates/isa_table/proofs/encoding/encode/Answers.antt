use Rattle.std.proofs.Common.{sym, subst, ◌∙◌, arith}
use Rattle.isa_rows.specs.Insn.{IsInsn}
use Rattle.isa_rows.specs.InsnLaws.{OperandsFit-Fits, IsInsn-insn_word, insn_word-IsInsn}
use Rattle.isa_table.proofs.InsnWord.{parts-insn_word}
use Rattle.isa_table.proofs.encoding.encode.Goals as goal

pub operand_bits-requires : goal.operand_bits-requires
operand_bits-requires c = rw c.format.ensures (OperandsFit-Fits c.args.insn c.requires)

pub overflow_add-result : goal.overflow_add-result
overflow_add-result c =
    let i = c.args.insn in
    let made = IsInsn-insn_word i (OperandsFit-Fits i c.requires) in
    let same = parts-insn_word i _ _ _ c.value.ensures c.format.ensures c.operand_bits.ensures in
    omega (arith, made.in_range, same)

pub returns-clause-value : goal.returns-clause-value
returns-clause-value c =
    let i = c.args.insn in
    let same = parts-insn_word i _ _ _ c.value.ensures c.format.ensures c.operand_bits.ensures in
    subst (λ word. IsInsn word i) (sym same) (IsInsn-insn_word i (OperandsFit-Fits i c.requires))

pub returns-clause-only : goal.returns-clause-only
returns-clause-only c = λ word h.
    insn_word-IsInsn word c.args.insn h ∙ sym (parts-insn_word c.args.insn _ _ _ c.value.ensures c.format.ensures c.operand_bits.ensures)
