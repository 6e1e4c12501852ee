use Rattle.std.proofs.Common.{◌≡◌, ◌^◌, ◌<◌, Some, None, sym, ap, subst, ◌∙◌, arith}
use Rattle.isa_rows.specs.declared.rows.Row.{Row}
use Rattle.isa_rows.specs.Insn.{IsInsn}
use Rattle.isa_rows.specs.Line.{line_of, IsRow}
use Rattle.isa_table.specs.Decision.{row_by, table}
use Rattle.isa_table.proofs.Table.{row_by-IsRow, IsRow-row_by}
use Rattle.isa_table.proofs.WordInsn.{insn_at-registers, IsInsn-insn_at, insn_at-IsInsn}
use Rattle.isa_table.proofs.decoding.decode.Goals as goal

pub returns-clause-found : goal.returns-clause-found
returns-clause-found c =
    let word = c.args.word in
    let row = c.in_ok-row.row in
    let h : row_by table word ≡ Some row = sym c.row_of.ensures ∙ c.in_ok-row.was in
    let b : word < 2 ^ 32 = omega arith in
    subst (IsInsn word) (sym c.operands_of.ensures) (IsInsn-insn_at word row b (row_by-IsRow word row h))

pub returns-clause-only : goal.returns-clause-only
returns-clause-only c = λ insn i.
    let word = c.args.word in
    let row = c.in_ok-row.row in
    let h : row_by table word ≡ Some row = sym c.row_of.ensures ∙ c.in_ok-row.was in
    ap Some (c.operands_of.ensures ∙ sym (insn_at-IsInsn word row insn (row_by-IsRow word row h) i))

pub returns-clause-registers : goal.returns-clause-registers
returns-clause-registers c =
    let word = c.args.word in
    let row = c.in_ok-row.row in
    let r = insn_at-registers (line_of row).format row word in
    let e = c.operands_of.ensures in
    rw e r

pub returns-in_err-row-clause-only : goal.returns-in_err-row-clause-only
returns-in_err-row-clause-only c = λ insn i.
    let found = IsRow-row_by c.args.word insn.row i.is_row in
    let h : row_by table c.args.word ≡ None = sym c.row_of.ensures ∙ c.in_err-row.was in
    absurd cc

pub returns-in_err-row-clause-none : goal.returns-in_err-row-clause-none
returns-in_err-row-clause-none c =
    let h : row_by table c.args.word ≡ None = sym c.row_of.ensures ∙ c.in_err-row.was in
    let no_row : (row : Row) → IsRow c.args.word row → ⊥ = λ row r.
    let found = IsRow-row_by c.args.word row r in
    cc
    in
    rw c.from_residual.ensures no_row
