-- The operands that are read from a word are in range: registers below 32, and an immediate of 64 bits.
use Rattle.std.proofs.Common.{ℕ, ◌+◌, ◌-◌, ◌*◌, ◌^◌, ◌<◌, ◌≤◌, Some, None, arith, lit≤}
use Rattle.std.specs.Prelude.{IfSome, find, option_map, nat_lt}
use Rattle.std.proofs.Math.Pow.{pow_mono}
use Rattle.std.proofs.lemmas.Bool.{cond_both}
use Rattle.isa_rows.specs.declared.formats.Format.{Format}
use Rattle.isa_rows.specs.declared.formats.Format.TheVariants.{Upper, Jump, Immediate, Unsigned, Store, Branch, Shift6, Shift5, Register}
use Rattle.isa_rows.specs.declared.formats.Format.TheVariants.{Whole, Unary, Pair}
use Rattle.isa_rows.specs.declared.operands.Insn.{Insn}
use Rattle.isa_rows.specs.declared.rows.Row.{Row}
use Rattle.isa_rows.specs.declared.table.TheConstants.{ROWS}
use Rattle.isa_rows.specs.Line.{line_of}
use Rattle.base.specs.Bits.{field}
use Rattle.isa_rows.specs.Insn.{sign_extended, insn_at}
use Rattle.isa_rows.specs.Decoded.{is_row, insn_of}

-- the registers exist, the one that is written among them, and the immediate has 64 bits
pub record AreInRange (insn : Insn) : Type 0 where
  pub rd : insn.rd < 32
  pub rs1 : insn.rs1 < 32
  pub rs2 : insn.rs2 < 32
  pub imm : insn.imm < 2 ^ 64

-- a sign-extended number has 64 bits
pub sign_extended-below : (bits n : ℕ) → bits ≤ 64 → n < 2 ^ bits → sign_extended bits n < 2 ^ 64
unfolding sign_extended
sign_extended-below bits n few small =
    let whole : 2 ^ bits ≤ 2 ^ 64 = pow_mono few in
    cond_both (nat_lt n (2 ^ (bits - 1))) n (n + (2 ^ 64 - 2 ^ bits)) (λ m. m < 2 ^ 64) (λ _. omega arith) (λ _. omega arith)

AreInRange-insn_at : (format : Format) (row : Row) (w : ℕ) → AreInRange (insn_at format row w)
unfolding insn_at
AreInRange-insn_at Upper row w =
    record {
      rd = omega arith;
      rs1 = omega arith;
      rs2 = omega arith;
      imm = sign_extended-below 32 (field w 12 20 * 2 ^ 12) (lit≤ tt)
          (omega arith);
    }
AreInRange-insn_at Jump row w =
    let n : ℕ = field w 12 8 * 2 ^ 12 + field w 20 1 * 2 ^ 11 + field w 21 10 * 2 ^ 1 + field w 31 1 * 2 ^ 20 in
    record { rd = omega arith; rs1 = omega arith; rs2 = omega arith; imm = sign_extended-below 21 n (lit≤ tt) (omega arith) }
AreInRange-insn_at Immediate row w =
    record { rd = omega arith; rs1 = omega arith; rs2 = omega arith; imm = sign_extended-below 12 (field w 20 12) (lit≤ tt) (omega arith) }
AreInRange-insn_at Unsigned row w = record { rd = omega arith; rs1 = omega arith; rs2 = omega arith; imm = omega arith }
AreInRange-insn_at Store row w =
    record {
      rd = omega arith;
      rs1 = omega arith;
      rs2 = omega arith;
      imm = sign_extended-below 12 (field w 7 5 + field w 25 7 * 2 ^ 5)
          (lit≤ tt) (omega arith);
    }
AreInRange-insn_at Branch row w =
    let n : ℕ = field w 7 1 * 2 ^ 11 + field w 8 4 * 2 ^ 1 + field w 25 6 * 2 ^ 5 + field w 31 1 * 2 ^ 12 in
    record { rd = omega arith; rs1 = omega arith; rs2 = omega arith; imm = sign_extended-below 13 n (lit≤ tt) (omega arith) }
AreInRange-insn_at Shift6 row w = record { rd = omega arith; rs1 = omega arith; rs2 = omega arith; imm = omega arith }
AreInRange-insn_at Shift5 row w = record { rd = omega arith; rs1 = omega arith; rs2 = omega arith; imm = omega arith }
AreInRange-insn_at Register row w = record { rd = omega arith; rs1 = omega arith; rs2 = omega arith; imm = omega arith }
AreInRange-insn_at Whole row w = record { rd = omega arith; rs1 = omega arith; rs2 = omega arith; imm = omega arith }
AreInRange-insn_at Unary row w = record { rd = omega arith; rs1 = omega arith; rs2 = omega arith; imm = omega arith }
AreInRange-insn_at Pair row w = record { rd = omega arith; rs1 = omega arith; rs2 = omega arith; imm = omega arith }

-- so are those of the instruction that a word is
pub AreInRange-insn_of : (word : ℕ) → IfSome (insn_of word) AreInRange
unfolding insn_of
AreInRange-insn_of word =
    elim (find (is_row word) ROWS) as (λ o. IfSome (option_map (λ row. insn_at (line_of row).format row word) o) AreInRange) [
      | Some row ↦ AreInRange-insn_at (line_of row).format row word
      | None ↦ tt
    ]
