-- Laws of instructions: a word is what its row's value and its operands make it, and operands that fit make such a word.
use Rattle.std.proofs.Common.{◌≡◌, ℕ, ◌+◌, ◌-◌, ◌*◌, ◌%◌, ◌^◌, ◌<◌, ◌≤◌, ◌⊎◌, inl, inr, refl, sym, ap, ◌∙◌, subst, arith}
use Rattle.std.proofs.lemmas.Bool.Decides.{nat_tests}
use Rattle.isa_rows.specs.declared.formats.Format.{Format}
use Rattle.isa_rows.specs.declared.formats.Format.TheVariants.{Upper, Jump, Immediate, Unsigned, Store, Branch, Shift6, Shift5, Register}
use Rattle.isa_rows.specs.declared.formats.Format.TheVariants.{Whole, Unary, Pair}
use Rattle.isa_rows.specs.declared.operands.Insn.{Insn}
use Rattle.isa_rows.specs.declared.rows.Row.{Row}
use Rattle.isa_rows.specs.Line.{line_of}
use Rattle.base.specs.Bits.{field}
use Rattle.isa_rows.specs.Insn.{sign_extended, insn, insn_at, IsInsn, Fits}
use Rattle.isa_rows.specs.Operands.{IsSignedOf, OperandsFit, word_of}
use Rattle.isa_rows.specs.WordLaws.{masked, masked-line_of, IsRow-masked, IsRow-from_masked}

-- a sign-extended number is the number itself or lies 2 ^ 64 - 2 ^ bits above it
sign_cases : (bits n : ℕ)
    → ((n < 2 ^ (bits - 1)) × (sign_extended bits n ≡ n)) ⊎ ((2 ^ (bits - 1) ≤ n) × (sign_extended bits n ≡ n + (2 ^ 64 - 2 ^ bits)))
unfolding sign_extended
sign_cases bits n = grind (arith, nat_tests)

-- a word made of six fields has them
pub fields-word : (op rd f3 rs1 rs2 f7 w : ℕ) → op < 2 ^ 7 → rd < 2 ^ 5 → f3 < 2 ^ 3 → rs1 < 2 ^ 5 → rs2 < 2 ^ 5 → f7 < 2 ^ 7
    → w ≡ op + rd * 2 ^ 7 + f3 * 2 ^ 12 + rs1 * 2 ^ 15 + rs2 * 2 ^ 20 + f7 * 2 ^ 25
    → (w % 2 ^ 7 ≡ op) × (field w 7 5 ≡ rd) × (field w 12 3 ≡ f3) × (field w 15 5 ≡ rs1) × (field w 20 5 ≡ rs2) × (field w 25 7 ≡ f7)
fields-word op rd f3 rs1 rs2 f7 w h0 h1 h2 h3 h4 h5 e =
    (omega arith, omega arith, omega arith, omega arith, omega arith, omega arith)

-- a sign-extended number has its own low bits
sign-mod_12 : (n : ℕ) → n < 2 ^ 12 → sign_extended 12 n % 2 ^ 12 ≡ n
sign-mod_12 n h = elim (sign_cases 12 n) [ inl p ↦ omega arith | inr p ↦ omega arith ]

sign-mod_13 : (n : ℕ) → n < 2 ^ 13 → sign_extended 13 n % 2 ^ 13 ≡ n
sign-mod_13 n h = elim (sign_cases 13 n) [ inl p ↦ omega arith | inr p ↦ omega arith ]

sign-mod_21 : (n : ℕ) → n < 2 ^ 21 → sign_extended 21 n % 2 ^ 21 ≡ n
sign-mod_21 n h = elim (sign_cases 21 n) [ inl p ↦ omega arith | inr p ↦ omega arith ]

sign-mod_32 : (n : ℕ) → n < 2 ^ 32 → sign_extended 32 n % 2 ^ 32 ≡ n
sign-mod_32 n h = elim (sign_cases 32 n) [ inl p ↦ omega arith | inr p ↦ omega arith ]

-- a signed number is its low bits, sign-extended
sign_12-mod : (n : ℕ) → IsSignedOf 12 n → sign_extended 12 (n % 2 ^ 12) ≡ n
sign_12-mod n (inl q) = elim (sign_cases 12 (n % 2 ^ 12)) [ inl p ↦ omega arith | inr p ↦ omega arith ]
sign_12-mod n (inr q) = elim (sign_cases 12 (n % 2 ^ 12)) [ inl p ↦ omega arith | inr p ↦ omega arith ]

sign_13-mod : (n : ℕ) → IsSignedOf 13 n → sign_extended 13 (n % 2 ^ 13) ≡ n
sign_13-mod n (inl q) = elim (sign_cases 13 (n % 2 ^ 13)) [ inl p ↦ omega arith | inr p ↦ omega arith ]
sign_13-mod n (inr q) = elim (sign_cases 13 (n % 2 ^ 13)) [ inl p ↦ omega arith | inr p ↦ omega arith ]

sign_21-mod : (n : ℕ) → IsSignedOf 21 n → sign_extended 21 (n % 2 ^ 21) ≡ n
sign_21-mod n (inl q) = elim (sign_cases 21 (n % 2 ^ 21)) [ inl p ↦ omega arith | inr p ↦ omega arith ]
sign_21-mod n (inr q) = elim (sign_cases 21 (n % 2 ^ 21)) [ inl p ↦ omega arith | inr p ↦ omega arith ]

sign_32-mod : (n : ℕ) → IsSignedOf 32 n → sign_extended 32 (n % 2 ^ 32) ≡ n
sign_32-mod n (inl q) = elim (sign_cases 32 (n % 2 ^ 32)) [ inl p ↦ omega arith | inr p ↦ omega arith ]
sign_32-mod n (inr q) = elim (sign_cases 32 (n % 2 ^ 32)) [ inl p ↦ omega arith | inr p ↦ omega arith ]

-- a sign-extended number is one of those whose signed reading needs so many bits
is_signed_12 : (n : ℕ) → n < 2 ^ 12 → IsSignedOf 12 (sign_extended 12 n)
is_signed_12 n h = elim (sign_cases 12 n) [ inl p ↦ inl (omega arith) | inr p ↦ inr (omega arith, omega arith) ]

is_signed_13 : (n : ℕ) → n < 2 ^ 13 → IsSignedOf 13 (sign_extended 13 n)
is_signed_13 n h = elim (sign_cases 13 n) [ inl p ↦ inl (omega arith) | inr p ↦ inr (omega arith, omega arith) ]

is_signed_21 : (n : ℕ) → n < 2 ^ 21 → IsSignedOf 21 (sign_extended 21 n)
is_signed_21 n h = elim (sign_cases 21 n) [ inl p ↦ inl (omega arith) | inr p ↦ inr (omega arith, omega arith) ]

is_signed_32 : (n : ℕ) → n < 2 ^ 32 → IsSignedOf 32 (sign_extended 32 n)
is_signed_32 n h = elim (sign_cases 32 n) [ inl p ↦ inl (omega arith) | inr p ↦ inr (omega arith, omega arith) ]

-- the parts of a branch's offset and of a jump's
branch-parts : (b12 b11 high low m : ℕ) → b12 < 2 ^ 1 → b11 < 2 ^ 1 → high < 2 ^ 6 → low < 2 ^ 4
    → m % 2 ^ 13 ≡ b11 * 2 ^ 11 + low * 2 + high * 2 ^ 5 + b12 * 2 ^ 12
    → (field m 11 1 ≡ b11) × (field m 1 4 ≡ low) × (field m 5 6 ≡ high) × (field m 12 1 ≡ b12)
branch-parts b12 b11 high low m h0 h1 h2 h3 e = (omega arith, omega arith, omega arith, omega arith)

jump-parts : (b20 high b11 low m : ℕ) → b20 < 2 ^ 1 → high < 2 ^ 8 → b11 < 2 ^ 1 → low < 2 ^ 10
    → m % 2 ^ 21 ≡ high * 2 ^ 12 + b11 * 2 ^ 11 + low * 2 + b20 * 2 ^ 20
    → (field m 12 8 ≡ high) × (field m 11 1 ≡ b11) × (field m 1 10 ≡ low) × (field m 20 1 ≡ b20)
jump-parts b20 high b11 low m h0 h1 h2 h3 e = (omega arith, omega arith, omega arith, omega arith)

store-parts : (high low m : ℕ) → high < 2 ^ 7 → low < 2 ^ 5 → m % 2 ^ 12 ≡ low + high * 2 ^ 5 → (m % 2 ^ 5 ≡ low) × (field m 5 7 ≡ high)
store-parts high low m h0 h1 e = (omega arith, omega arith)

upper-parts : (high m : ℕ) → high < 2 ^ 20 → m % 2 ^ 32 ≡ high * 2 ^ 12 → field m 12 20 ≡ high
upper-parts high m h e = omega arith

-- a word is made of its value and its operands
pub word_of-insn_at : (format : Format) (row : Row) (w : ℕ) → w < 2 ^ 32 → word_of format (masked format w) (insn_at format row w) ≡ w
unfolding word_of insn_at
word_of-insn_at Upper row w h =
    let n = field w 12 20 * 2 ^ 12 in
    let p = upper-parts (field w 12 20) (sign_extended 32 n) (omega arith) (sign-mod_32 n (omega arith)) in
    omega (arith, p)
word_of-insn_at Jump row w h =
    let n = field w 12 8 * 2 ^ 12 + field w 20 1 * 2 ^ 11 + field w 21 10 * 2 + field w 31 1 * 2 ^ 20 in
    let p = jump-parts (field w 31 1) (field w 12 8) (field w 20 1) (field w 21 10) (sign_extended 21 n) (omega arith) (omega arith)
    (omega arith) (omega arith) (sign-mod_21 n (omega arith)) in
    omega (arith, p.0, p.1, p.2, p.3)
word_of-insn_at Immediate row w h =
    let p = sign-mod_12 (field w 20 12) (omega arith) in
    omega (arith, p)
word_of-insn_at Unsigned row w h = omega arith
word_of-insn_at Store row w h =
    let n = field w 7 5 + field w 25 7 * 2 ^ 5 in
    let p = store-parts (field w 25 7) (field w 7 5) (sign_extended 12 n) (omega arith) (omega arith) (sign-mod_12 n (omega arith)) in
    omega (arith, p.0, p.1)
word_of-insn_at Branch row w h =
    let n = field w 7 1 * 2 ^ 11 + field w 8 4 * 2 + field w 25 6 * 2 ^ 5 + field w 31 1 * 2 ^ 12 in
    let p = branch-parts (field w 31 1) (field w 7 1) (field w 25 6) (field w 8 4) (sign_extended 13 n) (omega arith) (omega arith)
    (omega arith) (omega arith) (sign-mod_13 n (omega arith)) in
    omega (arith, p.0, p.1, p.2, p.3)
word_of-insn_at Shift6 row w h = omega arith
word_of-insn_at Shift5 row w h = omega arith
word_of-insn_at Register row w h = omega arith
word_of-insn_at Whole row w h = omega arith
word_of-insn_at Unary row w h = omega arith
word_of-insn_at Pair row w h = omega arith

-- a word's operands fit its format
pub OperandsFit-insn_at : (format : Format) (row : Row) (w : ℕ) → OperandsFit format (insn_at format row w)
unfolding OperandsFit insn_at
OperandsFit-insn_at Upper row w =
    let n = field w 12 20 * 2 ^ 12 in
    let p = sign-mod_32 n (omega arith) in
    record {
      rd_below = omega arith;
      rs1_below = omega arith;
      rs2_below = omega arith;
      imm_is =
          (omega (arith, p), is_signed_32 n (omega arith));
    }
OperandsFit-insn_at Jump row w =
    let n = field w 12 8 * 2 ^ 12 + field w 20 1 * 2 ^ 11 + field w 21 10 * 2 + field w 31 1 * 2 ^ 20 in
    let p = sign-mod_21 n (omega arith) in
    record {
      rd_below = omega arith;
      rs1_below = omega arith;
      rs2_below = omega arith;
      imm_is =
          (omega (arith, p), is_signed_21 n (omega arith));
    }
OperandsFit-insn_at Immediate row w =
    record { rd_below = omega arith; rs1_below = omega arith; rs2_below = omega arith; imm_is = is_signed_12 (field w 20 12) (omega arith) }
OperandsFit-insn_at Unsigned row w =
    record { rd_below = omega arith; rs1_below = omega arith; rs2_below = omega arith; imm_is = omega arith }
OperandsFit-insn_at Store row w =
    record {
      rd_below = omega arith;
      rs1_below = omega arith;
      rs2_below = omega arith;
      imm_is = is_signed_12
          (field w 7 5 + field w 25 7 * 2 ^ 5) (omega arith);
    }
OperandsFit-insn_at Branch row w =
    let n = field w 7 1 * 2 ^ 11 + field w 8 4 * 2 + field w 25 6 * 2 ^ 5 + field w 31 1 * 2 ^ 12 in
    let p = sign-mod_13 n (omega arith) in
    record {
      rd_below = omega arith;
      rs1_below = omega arith;
      rs2_below = omega arith;
      imm_is =
          (omega (arith, p), is_signed_13 n (omega arith));
    }
OperandsFit-insn_at Shift6 row w =
    record { rd_below = omega arith; rs1_below = omega arith; rs2_below = omega arith; imm_is = omega arith }
OperandsFit-insn_at Shift5 row w =
    record { rd_below = omega arith; rs1_below = omega arith; rs2_below = omega arith; imm_is = omega arith }
OperandsFit-insn_at Register row w =
    record { rd_below = omega arith; rs1_below = omega arith; rs2_below = omega arith; imm_is = omega arith }
OperandsFit-insn_at Whole row w =
    record { rd_below = omega arith; rs1_below = omega arith; rs2_below = omega arith; imm_is = omega arith }
OperandsFit-insn_at Unary row w =
    record { rd_below = omega arith; rs1_below = omega arith; rs2_below = omega arith; imm_is = omega arith }
OperandsFit-insn_at Pair row w =
    record { rd_below = omega arith; rs1_below = omega arith; rs2_below = omega arith; imm_is = omega arith }

-- an instruction of these operands
same_insn : (i : Insn) (rd rs1 rs2 imm : ℕ) → rd ≡ i.rd → rs1 ≡ i.rs1 → rs2 ≡ i.rs2 → imm ≡ i.imm → insn i.row rd rs1 rs2 imm ≡ i
same_insn i rd rs1 rs2 imm p q r s = rw (p, q, r, s)

-- a value and operands that fit make a word, which has that value and those operands
pub record IsMadeOf (format : Format) (value : ℕ) (i : Insn) (w : ℕ) : Type 0 where
  pub below : w < 2 ^ 32
  pub value_is : masked format w ≡ value
  pub operands_are : insn_at format i.row w ≡ i

jump-word : (v rd high b11 low b20 w : ℕ) → v < 2 ^ 7 → rd < 2 ^ 5 → high < 2 ^ 8 → b11 < 2 ^ 1 → low < 2 ^ 10 → b20 < 2 ^ 1
    → w ≡ v + rd * 2 ^ 7 + high * 2 ^ 12 + b11 * 2 ^ 20 + low * 2 ^ 21 + b20 * 2 ^ 31
    → (w % 2 ^ 7 ≡ v) × (field w 7 5 ≡ rd) × (field w 12 8 ≡ high) × (field w 20 1 ≡ b11) × (field w 21 10 ≡ low) × (field w 31 1 ≡ b20)
jump-word v rd high b11 low b20 w h0 h1 h2 h3 h4 h5 e =
    (omega arith, omega arith, omega arith, omega arith, omega arith, omega arith)

branch-word : (op f3 b11 low rs1 rs2 high b12 w : ℕ) → op < 2 ^ 7 → f3 < 2 ^ 3 → b11 < 2 ^ 1 → low < 2 ^ 4 → rs1 < 2 ^ 5 → rs2 < 2 ^ 5
    → high < 2 ^ 6 → b12 < 2 ^ 1
    → w ≡ op + f3 * 2 ^ 12 + b11 * 2 ^ 7 + low * 2 ^ 8 + rs1 * 2 ^ 15 + rs2 * 2 ^ 20 + high * 2 ^ 25 + b12 * 2 ^ 31
    → (field w 7 1 ≡ b11) × (field w 8 4 ≡ low) × (field w 25 6 ≡ high) × (field w 31 1 ≡ b12)
branch-word op f3 b11 low rs1 rs2 high b12 w h0 h1 h2 h3 h4 h5 h6 h7 e =
    (omega arith, omega arith, omega arith, omega arith)

pub word_of-made : (format : Format) (value : ℕ) (i : Insn) → masked format value ≡ value → OperandsFit format i
    → IsMadeOf format value i (word_of format value i)
unfolding OperandsFit word_of insn_at
word_of-made Upper v i e f =
    let u = field i.imm 12 20 in
    let w = v + i.rd * 2 ^ 7 + u * 2 ^ 12 in
    let b : i.rd < 2 ^ 5 = f.rd_below in
    let high : field w 12 20 ≡ u = omega arith in
    let number : field w 12 20 * 2 ^ 12 ≡ i.imm % 2 ^ 32 = omega (arith, high, f.imm_is.0) in
    record {
      below = omega arith;
      value_is = omega arith;
      operands_are = same_insn i _ _ _ _ (omega arith) (omega (arith, f.rs1_below)) (omega (arith, f.rs2_below))
          (ap (sign_extended 32) number ∙ sign_32-mod i.imm f.imm_is.1);
    }
word_of-made Jump v i e f =
    let m = i.imm in
    let w = v + i.rd * 2 ^ 7 + field m 12 8 * 2 ^ 12 + field m 11 1 * 2 ^ 20 + field m 1 10 * 2 ^ 21 + field m 20 1 * 2 ^ 31 in
    let g = jump-word v i.rd (field m 12 8) (field m 11 1) (field m 1 10) (field m 20 1) w (omega arith) f.rd_below (omega arith)
    (omega arith) (omega arith) (omega arith) refl in
    let number : field w 12 8 * 2 ^ 12 + field w 20 1 * 2 ^ 11 + field w 21 10 * 2 + field w 31 1 * 2 ^ 20
    ≡ m % 2 ^ 21 = omega (arith, g, f.imm_is.0) in
    record {
      below = omega (arith, f.rd_below);
      value_is = omega (arith, g);
      operands_are = same_insn i _ _ _ _ g.1 (omega (arith, f.rs1_below)) (omega (arith, f.rs2_below))
          (ap (sign_extended 21) number ∙ sign_21-mod m f.imm_is.1);
    }
word_of-made Immediate v i e f =
    let w = v + i.rd * 2 ^ 7 + i.rs1 * 2 ^ 15 + i.imm % 2 ^ 12 * 2 ^ 20 in
    let b : i.rd < 2 ^ 5 = f.rd_below in
    let b1 : i.rs1 < 2 ^ 5 = f.rs1_below in
    let number : field w 20 12 ≡ i.imm % 2 ^ 12 = omega arith in
    record {
      below = omega arith;
      value_is = omega arith;
      operands_are = same_insn i _ _ _ _ (omega arith) (omega arith) (omega (arith, f.rs2_below))
          (ap (sign_extended 12) number ∙ sign_12-mod i.imm f.imm_is);
    }
word_of-made Unsigned v i e f =
    let w = v + i.rd * 2 ^ 7 + i.rs1 * 2 ^ 15 + i.imm % 2 ^ 12 * 2 ^ 20 in
    let b : i.rd < 2 ^ 5 = f.rd_below in
    let b1 : i.rs1 < 2 ^ 5 = f.rs1_below in
    let b2 : i.imm < 2 ^ 12 = f.imm_is in
    record {
      below = omega arith;
      value_is = omega arith;
      operands_are = same_insn i _ _ _ _ (omega arith) (omega arith)
          (omega (arith, f.rs2_below)) (omega arith);
    }
word_of-made Store v i e f =
    let m = i.imm in
    let w = v + m % 2 ^ 5 * 2 ^ 7 + i.rs1 * 2 ^ 15 + i.rs2 * 2 ^ 20 + field m 5 7 * 2 ^ 25 in
    let g = fields-word (v % 2 ^ 7) (m % 2 ^ 5) (field v 12 3) i.rs1 i.rs2 (field m 5 7) w (omega arith) (omega arith) (omega arith)
    f.rs1_below f.rs2_below (omega arith) (omega arith) in
    let number : field w 7 5 + field w 25 7 * 2 ^ 5 ≡ m % 2 ^ 12 = omega (arith, g) in
    record {
      below = omega (arith, f.rs1_below, f.rs2_below);
      value_is = omega (arith, g);
      operands_are = same_insn i _ _ _ _ (omega (arith, f.rd_below)) g.3 g.4 (ap (sign_extended 12) number ∙ sign_12-mod m f.imm_is);
    }
word_of-made Branch v i e f =
    let m = i.imm in
    let w = v + field m 11 1 * 2 ^ 7 + field m 1 4 * 2 ^ 8 + i.rs1 * 2 ^ 15 + i.rs2 * 2 ^ 20 + field m 5 6 * 2 ^ 25 + field m 12 1 * 2 ^
    31 in
    let g = fields-word (v % 2 ^ 7) (field m 11 1 + field m 1 4 * 2) (field v 12 3) i.rs1 i.rs2 (field m 5 6 + field m 12 1 * 2 ^ 6) w
    (omega arith) (omega arith) (omega arith) f.rs1_below f.rs2_below (omega arith) (omega arith) in
    let k = branch-word (v % 2 ^ 7) (field v 12 3) (field m 11 1) (field m 1 4) i.rs1 i.rs2 (field m 5 6) (field m 12 1) w (omega arith)
    (omega arith) (omega arith) (omega arith) f.rs1_below f.rs2_below (omega arith) (omega arith) (omega arith) in
    let number : field w 7 1 * 2 ^ 11 + field w 8 4 * 2 + field w 25 6 * 2 ^ 5 + field w 31 1 * 2 ^ 12
    ≡ m % 2 ^ 13 = omega (arith, k, f.imm_is.0) in
    record {
      below = omega (arith, f.rs1_below, f.rs2_below);
      value_is = omega (arith, g);
      operands_are = same_insn i _ _ _ _ (omega (arith, f.rd_below)) g.3 g.4 (ap (sign_extended 13) number ∙ sign_13-mod m f.imm_is.1);
    }
word_of-made Shift6 v i e f =
    let w = v + i.rd * 2 ^ 7 + i.rs1 * 2 ^ 15 + i.imm % 2 ^ 6 * 2 ^ 20 in
    let b : i.rd < 2 ^ 5 = f.rd_below in
    let b1 : i.rs1 < 2 ^ 5 = f.rs1_below in
    let b2 : i.imm < 2 ^ 6 = f.imm_is in
    record {
      below = omega arith;
      value_is = omega arith;
      operands_are = same_insn i _ _ _ _ (omega arith) (omega arith)
          (omega (arith, f.rs2_below)) (omega arith);
    }
word_of-made Shift5 v i e f =
    let w = v + i.rd * 2 ^ 7 + i.rs1 * 2 ^ 15 + i.imm % 2 ^ 5 * 2 ^ 20 in
    let g = fields-word (v % 2 ^ 7) i.rd (field v 12 3) i.rs1 (i.imm % 2 ^ 5) (field v 25 7) w (omega arith) f.rd_below (omega arith)
    f.rs1_below (omega arith) (omega arith) (omega arith) in
    record {
      below = omega (arith, f.rd_below, f.rs1_below, f.imm_is);
      value_is = omega (arith, g);
      operands_are = same_insn i _ _ _ _ g.1
          g.3 (omega (arith, f.rs2_below)) (omega (arith, g, f.imm_is));
    }
word_of-made Register v i e f =
    let w = v + i.rd * 2 ^ 7 + i.rs1 * 2 ^ 15 + i.rs2 * 2 ^ 20 in
    let g = fields-word (v % 2 ^ 7) i.rd (field v 12 3) i.rs1 i.rs2 (field v 25 7) w (omega arith) f.rd_below (omega arith) f.rs1_below
    f.rs2_below (omega arith) (omega arith) in
    record {
      below = omega (arith, f.rd_below, f.rs1_below, f.rs2_below);
      value_is = omega (arith, g);
      operands_are = same_insn i _ _ _ _
          g.1 g.3 g.4 (omega (arith, f.imm_is));
    }
word_of-made Whole v i e f =
    record {
      below = omega arith;
      value_is = e;
      operands_are = same_insn i _ _ _ _ (omega (arith, f.rd_below)) (omega (arith, f.rs1_below)) (omega (arith, f.rs2_below))
          (omega (arith, f.imm_is));
    }
word_of-made Unary v i e f =
    let w = v + i.rd * 2 ^ 7 + i.rs1 * 2 ^ 15 in
    let g = fields-word (v % 2 ^ 7) i.rd (field v 12 3) i.rs1 (field v 20 5) (field v 25 7) w (omega arith) f.rd_below (omega arith)
    f.rs1_below (omega arith) (omega arith) (omega arith) in
    record {
      below = omega (arith, f.rd_below, f.rs1_below);
      value_is = omega (arith, g);
      operands_are = same_insn i _ _ _ _ g.1 g.3
          (omega (arith, f.rs2_below)) (omega (arith, f.imm_is));
    }
word_of-made Pair v i e f =
    let w = v + i.rs1 * 2 ^ 15 + i.rs2 * 2 ^ 20 in
    let g = fields-word (v % 2 ^ 7) (field v 7 5) (field v 12 3) i.rs1 i.rs2 (field v 25 7) w (omega arith) (omega arith) (omega arith)
    f.rs1_below f.rs2_below (omega arith) (omega arith) in
    record {
      below = omega (arith, f.rs1_below, f.rs2_below);
      value_is = omega (arith, g);
      operands_are = same_insn i _ _ _ _
          (omega (arith, f.rd_below)) g.3 g.4 (omega (arith, f.imm_is));
    }

-- the word of an instruction
unfoldable pub insn_word : Insn → ℕ
insn_word i = word_of (line_of i.row).format (line_of i.row).value i

-- operands that fit make a word that is the instruction
pub IsInsn-insn_word : (i : Insn) → OperandsFit (line_of i.row).format i → IsInsn (insn_word i) i
unfolding insn_word
IsInsn-insn_word i f =
    let made = word_of-made (line_of i.row).format (line_of i.row).value i (masked-line_of i.row) f in
    record { in_range = made.below; is_row = IsRow-from_masked (insn_word i) i.row made.value_is; operands = sym made.operands_are }

-- and no other word is
pub insn_word-IsInsn : (w : ℕ) (i : Insn) → IsInsn w i → w ≡ insn_word i
unfolding insn_word
insn_word-IsInsn w i h =
    let format = (line_of i.row).format in
    let e = word_of-insn_at format i.row w h.in_range in
    sym e ∙ ap (λ v. word_of format v (insn_at format i.row w)) (IsRow-masked w i.row h.is_row)
    ∙ ap (word_of format (line_of i.row).value) (sym h.operands)

-- an instruction fits exactly if its operands fit its format
pub OperandsFit-Fits : (i : Insn) → Fits i → OperandsFit (line_of i.row).format i
OperandsFit-Fits i h =
    let format = (line_of i.row).format in
    subst (OperandsFit format) (sym h.is_insn.operands) (OperandsFit-insn_at format i.row h.word)

pub Fits-OperandsFit : (i : Insn) → OperandsFit (line_of i.row).format i → Fits i
Fits-OperandsFit i h = record { word = insn_word i; is_insn = IsInsn-insn_word i h }
