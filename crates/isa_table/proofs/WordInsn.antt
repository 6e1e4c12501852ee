-- A word's row with its operands is the instruction that the word is.
use Rattle.std.proofs.Common.{◌≡◌, ℕ, ◌^◌, ◌<◌, refl, sym, ap, subst, ◌∙◌, arith}
use Rattle.isa_rows.specs.declared.formats.Format.{Format}
use Rattle.isa_rows.specs.declared.formats.Format.TheVariants.{Upper}
use Rattle.isa_rows.specs.declared.operands.Insn.{Insn}
use Rattle.isa_rows.specs.declared.rows.Row.{Row}
use Rattle.isa_rows.specs.Line.{line_of, IsRow}
use Rattle.isa_rows.specs.Insn.{insn_at, IsInsn}
use Rattle.isa_table.proofs.Table.{IsRow-row_by}

row-insn_at : (format : Format) (row : Row) (w : ℕ) → (insn_at format row w).row ≡ row
unfolding insn_at
row-insn_at Upper row w = refl
row-insn_at _ row w = refl

-- the registers of a word are below 32
pub insn_at-registers : (format : Format) (row : Row) (w : ℕ)
    → ((insn_at format row w).rd < 32) × ((insn_at format row w).rs1 < 32) × ((insn_at format row w).rs2 < 32)
unfolding insn_at
insn_at-registers Upper row w = (omega arith, omega arith, omega arith)
insn_at-registers _ row w = (omega arith, omega arith, omega arith)

-- the row that the table finds for a word, with the word's operands, is the word's instruction
pub IsInsn-insn_at : (w : ℕ) (row : Row) → w < 2 ^ 32 → IsRow w row → IsInsn w (insn_at (line_of row).format row w)
IsInsn-insn_at w row b h =
    let same = row-insn_at (line_of row).format row w in
    record {
      in_range = b;
      is_row = subst (IsRow w) (sym same) h;
      operands = ap (λ r. insn_at (line_of r).format r w) (sym same);
    }

-- one row alone fits a word
pub same_row : (w : ℕ) (a b : Row) → IsRow w a → IsRow w b → a ≡ b
same_row w a b p q =
    let x = IsRow-row_by w a p in
    let y = IsRow-row_by w b q in
    cc

-- and no other instruction is
pub insn_at-IsInsn : (w : ℕ) (row : Row) (i : Insn) → IsRow w row → IsInsn w i → i ≡ insn_at (line_of row).format row w
insn_at-IsInsn w row i h j =
    j.operands ∙ ap (λ r. insn_at (line_of r).format r w) (same_row w i.row row j.is_row h)
