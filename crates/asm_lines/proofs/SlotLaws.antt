-- What is known of an instruction whose operands could be read: slot by slot, bounds of its registers and the kind of its immediate.
use Rattle.std.proofs.Common.{◌≡◌, ℕ, ◌+◌, ◌-◌, ◌*◌, ◌^◌, ◌<◌, ◌≤◌, ◌⊎◌, inl, inr, Bool, true, false, ◌&&◌, List, [], ◌∷◌, Option, Some}
use Rattle.std.proofs.Common.{None, refl, arith}
use Rattle.std.specs.Prelude.{ℤ, pos, negsuc, neg_ℤ, int_lt, Result, Ok, Err, length, min, ◌==◌, if◌then◌else◌}
use Rattle.std.proofs.lemmas.Bool.Decides.{nat_tests}
use Rattle.std.proofs.lemmas.Nat.{pow_pos}
use Rattle.isa_rows.specs.declared.rows.Row.{Row}
use Rattle.isa_rows.specs.Insn.{sign_extended}
use Rattle.isa_rows.specs.Operands.{IsSignedOf, IsUpperImmediate}
use Rattle.isa_rows.specs.declared.slots.Slot.{Slot}
use Rattle.isa_rows.specs.declared.slots.Slot.TheVariants.{Rd, Rs1, Rs2, Signed, Unsigned, Upper, Small, Csr, Special, Address, Authority}
use Rattle.isa_rows.specs.declared.slots.Slot.TheVariants.{Target}
use Rattle.asm_names.specs.Registers.{register_named}
use Rattle.asm_names.specs.SpecialNames.{csr_named, scr_named}
use Rattle.asm_names.specs.NameLaws.{register_named-below, csr_named-below, scr_named-below}
use Rattle.asm_lines.specs.declared.fault.LineFault.{LineFault}
use Rattle.asm_lines.specs.declared.fault.LineFault.TheVariants.{A1, A2, A3, A8, A9}
use Rattle.asm_lines.specs.Number.{Expression, number_of, expression_of}
use Rattle.asm_lines.specs.Ranges.{most_of}
use Rattle.asm_lines.specs.Operand.{Draft, wrapped, ranged, up_to, signed_12, with_rd, with_rs1, with_rs2, with_imm, with_upper, with_small}
use Rattle.asm_lines.specs.Operand.{with_special, with_target, named_or, before_bracket, in_brackets, has_brackets, displacement}
use Rattle.asm_lines.specs.Operand.{with_address, filled_slot, told_fault, draft_after, fault_of, filled_draft, filled_fault}

-- the kinds of an immediate: below a bound, signed of 12 bits, upper
pub data Kind : Type 0 where
  below : ℕ → Kind
  signed : Kind
  upper : Kind

abbrev pub IsOfKind : Kind → ℕ → Type 0
IsOfKind (below m) n = n < m
IsOfKind signed n = IsSignedOf 12 n
IsOfKind upper n = IsUpperImmediate n

-- bounds of the registers, the immediate's kind, and whether there may be a target
pub record Bounds : Type 0 where
  pub rd : ℕ
  pub rs1 : ℕ
  pub rs2 : ℕ
  pub imm : Kind
  pub target : Bool

-- There is a target only where there may be one.
abbrev pub IsMarked : Bool → Option Expression → Type 0
IsMarked true target = Unit {0}
IsMarked false None = Unit {0}
IsMarked false (Some e) = ⊥

-- A draft is of a row and within bounds.
pub record IsWithin (row : Row) (b : Bounds) (d : Draft) : Type 0 where
  pub row_is : d.insn.row ≡ row
  pub rd_below : d.insn.rd < b.rd
  pub rs1_below : d.insn.rs1 < b.rs1
  pub rs2_below : d.insn.rs2 < b.rs2
  pub imm_is : IsOfKind b.imm d.insn.imm
  pub target_is : IsMarked b.target d.target

-- the bounds with a slot's operand there
abbrev pub bounds_with : Slot → Bounds → Bounds
bounds_with (Rd naming) b = record b { rd = 32 }
bounds_with (Rs1 naming) b = record b { rs1 = 32 }
bounds_with (Rs2 naming) b = record b { rs2 = 32 }
bounds_with Signed b = record b { imm = signed }
bounds_with (Unsigned bits) b = record b { imm = below (2 ^ min bits 64) }
bounds_with Upper b = record b { imm = upper }
bounds_with Small b = record b { rs1 = 32 }
bounds_with Csr b = record b { imm = below 4096 }
bounds_with Special b = record b { rs2 = 32 }
bounds_with (Address naming) b = record b { rs1 = 32; imm = signed }
bounds_with (Authority naming) b = record b { rs1 = 32 }
bounds_with (Target bits) b = record b { target = true }

abbrev pub bounds_of : List Slot → Bounds → Bounds
bounds_of [] b = b
bounds_of (s ∷ ss) b = bounds_of ss (bounds_with s b)

-- Where a result is no fault, the draft after it is within bounds.
abbrev Leads : Row → Bounds → Draft → Result Draft LineFault → Type 0
Leads row b d r = fault_of r ≡ None → IsWithin row b (draft_after d r)

-- a number that is in range
abbrev Numbers : Kind → Result ℤ LineFault → Type 0
Numbers kind r = (z : ℤ) → r ≡ Ok z → IsOfKind kind (wrapped z)

ranged-Ok : (low high : ℤ) (r : Result ℤ LineFault) (z : ℤ) → ranged low high r ≡ Ok z → (int_lt z low ≡ false) × (int_lt high z ≡ false)
ranged-Ok low high (Ok n) z e = grind (arith, nat_tests)
ranged-Ok low high (Err fault) z e = cc

natural-below : (m : ℕ) (z : ℤ) → 0 < m → int_lt z (pos 0) ≡ false → int_lt (pos (m - 1)) z ≡ false → wrapped z < m
natural-below m (pos n) h p q = grind (arith, nat_tests)
natural-below m (negsuc n) h p q = grind (arith, nat_tests)

signed-12 : (z : ℤ) → int_lt z (neg_ℤ (pos 2048)) ≡ false → int_lt (pos 2047) z ≡ false → IsSignedOf 12 (wrapped z)
signed-12 (pos n) p q = inl (grind (arith, nat_tests))
signed-12 (negsuc n) p q = inr (grind (arith, nat_tests), grind (arith, nat_tests))

up_to-numbers : (m : ℕ) (r : Result ℤ LineFault) → 0 < m → Numbers (below m) (up_to (m - 1) r)
up_to-numbers m r h z e = let k = ranged-Ok (pos 0) (pos (m - 1)) r z e in natural-below m z h k.0 k.1

signed_12-numbers : (r : Result ℤ LineFault) → Numbers signed (signed_12 r)
signed_12-numbers r z e = let k = ranged-Ok (neg_ℤ (pos 2048)) (pos 2047) r z e in signed-12 z k.0 k.1

named_or-numbers : (m : ℕ) (o : Option ℕ) (r : Result ℤ LineFault) → ((n : ℕ) → o ≡ Some n → n < m) → Numbers (below m) r
    → Numbers (below m) (named_or o r)
named_or-numbers m (Some n) r f g (pos k) e =
    let h : n < m = f n refl in
    let same : n ≡ k = cc in
    omega arith
named_or-numbers m (Some n) r f g (negsuc k) e = cc
named_or-numbers m None r f g z e = g z e

-- a number of 20 bits in the upper bits
sign_extended_32 : (n : ℕ) → n < 2 ^ 20
    → ((n < 2 ^ 19) × (sign_extended 32 (n * 2 ^ 12) ≡ n * 2 ^ 12))
    ⊎ ((2 ^ 19 ≤ n) × (sign_extended 32 (n * 2 ^ 12) ≡ n * 2 ^ 12 + (2 ^ 64 - 2 ^ 32)))
unfolding sign_extended
sign_extended_32 n h = grind (arith, nat_tests)

upper-number : (n : ℕ) → n < 2 ^ 20 → IsUpperImmediate (sign_extended 32 (n * 2 ^ 12))
upper-number n h =
    elim (sign_extended_32 n h) [
      | inl p ↦ (omega arith, inl (omega arith))
      | inr p ↦ (omega arith, inr (omega arith, omega arith))
    ]

-- each way to put an operand into a draft keeps it within bounds
rd-leads : (row : Row) (b : Bounds) (d : Draft) (o : Option ℕ) → ((n : ℕ) → o ≡ Some n → n < 32) → IsWithin row b d
    → Leads row (record b { rd = 32 }) d (with_rd d o)
rd-leads row b d (Some n) f w e =
    record {
      row_is = w.row_is;
      rd_below = f n refl;
      rs1_below = w.rs1_below;
      rs2_below = w.rs2_below;
      imm_is = w.imm_is;
      target_is =
          w.target_is;
    }
rd-leads row b d None f w e = cc

rs1-leads : (row : Row) (b : Bounds) (d : Draft) (o : Option ℕ) → ((n : ℕ) → o ≡ Some n → n < 32) → IsWithin row b d
    → Leads row (record b { rs1 = 32 }) d (with_rs1 d o)
rs1-leads row b d (Some n) f w e =
    record {
      row_is = w.row_is;
      rd_below = w.rd_below;
      rs1_below = f n refl;
      rs2_below = w.rs2_below;
      imm_is = w.imm_is;
      target_is =
          w.target_is;
    }
rs1-leads row b d None f w e = cc

rs2-leads : (row : Row) (b : Bounds) (d : Draft) (o : Option ℕ) → ((n : ℕ) → o ≡ Some n → n < 32) → IsWithin row b d
    → Leads row (record b { rs2 = 32 }) d (with_rs2 d o)
rs2-leads row b d (Some n) f w e =
    record {
      row_is = w.row_is;
      rd_below = w.rd_below;
      rs1_below = w.rs1_below;
      rs2_below = f n refl;
      imm_is = w.imm_is;
      target_is =
          w.target_is;
    }
rs2-leads row b d None f w e = cc

imm-leads : (row : Row) (b : Bounds) (d : Draft) (kind : Kind) (r : Result ℤ LineFault) → Numbers kind r → IsWithin row b d
    → Leads row (record b { imm = kind }) d (with_imm d r)
imm-leads row b d kind (Ok z) f w e =
    record {
      row_is = w.row_is;
      rd_below = w.rd_below;
      rs1_below = w.rs1_below;
      rs2_below = w.rs2_below;
      imm_is = f z refl;
      target_is =
          w.target_is;
    }
imm-leads row b d kind (Err fault) f w e = cc

upper-leads : (row : Row) (b : Bounds) (d : Draft) (r : Result ℤ LineFault) → Numbers (below (2 ^ 20)) r → IsWithin row b d
    → Leads row (record b { imm = upper }) d (with_upper d r)
upper-leads row b d (Ok z) f w e =
    record {
      row_is = w.row_is;
      rd_below = w.rd_below;
      rs1_below = w.rs1_below;
      rs2_below = w.rs2_below;
      imm_is = upper-number (wrapped z)
          (f z refl);
      target_is = w.target_is;
    }
upper-leads row b d (Err fault) f w e = cc

small-leads : (row : Row) (b : Bounds) (d : Draft) (r : Result ℤ LineFault) → Numbers (below 32) r → IsWithin row b d
    → Leads row (record b { rs1 = 32 }) d (with_small d r)
small-leads row b d (Ok z) f w e =
    record {
      row_is = w.row_is;
      rd_below = w.rd_below;
      rs1_below = f z refl;
      rs2_below = w.rs2_below;
      imm_is = w.imm_is;
      target_is =
          w.target_is;
    }
small-leads row b d (Err fault) f w e = cc

special-leads : (row : Row) (b : Bounds) (d : Draft) (r : Result ℤ LineFault) → Numbers (below 32) r → IsWithin row b d
    → Leads row (record b { rs2 = 32 }) d (with_special d r)
special-leads row b d (Ok z) f w e =
    record {
      row_is = w.row_is;
      rd_below = w.rd_below;
      rs1_below = w.rs1_below;
      rs2_below = f z refl;
      imm_is = w.imm_is;
      target_is =
          w.target_is;
    }
special-leads row b d (Err fault) f w e = cc

target-leads : (row : Row) (b : Bounds) (d : Draft) (r : Result Expression LineFault) → IsWithin row b d
    → Leads row (record b { target = true }) d (with_target d r)
target-leads row b d (Ok x) w e =
    record { row_is = w.row_is; rd_below = w.rd_below; rs1_below = w.rs1_below; rs2_below = w.rs2_below; imm_is = w.imm_is; target_is = tt }
target-leads row b d (Err fault) w e = cc

address-leads : (row : Row) (b : Bounds) (d : Draft) (o : Option ℕ) (r : Result ℤ LineFault) → ((n : ℕ) → o ≡ Some n → n < 32)
    → Numbers signed r → IsWithin row b d → Leads row (record b { rs1 = 32; imm = signed }) d (with_address d o r)
address-leads row b d (Some n) (Ok z) f g w e =
    record {
      row_is = w.row_is;
      rd_below = w.rd_below;
      rs1_below = f n refl;
      rs2_below = w.rs2_below;
      imm_is = g z refl;
      target_is =
          w.target_is;
    }
address-leads row b d (Some n) (Err fault) f g w e = cc
address-leads row b d None r f g w e = cc

-- what leads into bounds where a test holds, and is a fault where it does not
test-leads : (row : Row) (b : Bounds) (d : Draft) (test : Bool) (r : Result Draft LineFault) → Leads row b d r
    → Leads row b d (if test then r else Err A2)
test-leads row b d true r f e = f e
test-leads row b d false r f e = cc

-- an operand that could be read leads into the bounds of its slot
pub slot-leads : (row : Row) (b : Bounds) (d : Draft) (s : Slot) (text : List ℕ) → IsWithin row b d
    → Leads row (bounds_with s b) d (filled_slot s text d)
unfolding filled_slot
slot-leads row b d (Rd naming) text w = rd-leads row b d (register_named text) (register_named-below text) w
slot-leads row b d (Rs1 naming) text w = rs1-leads row b d (register_named text) (register_named-below text) w
slot-leads row b d (Rs2 naming) text w = rs2-leads row b d (register_named text) (register_named-below text) w
slot-leads row b d Signed text w = imm-leads row b d signed (signed_12 (number_of text)) (signed_12-numbers (number_of text)) w
slot-leads row b d (Unsigned bits) text w =
    imm-leads row b d (below (2 ^ min bits 64)) (up_to (most_of bits) (number_of text))
    (up_to-numbers (2 ^ min bits 64) (number_of text) (pow_pos (min bits 64))) w
slot-leads row b d Upper text w =
    upper-leads row b d (up_to 0xFFFFF (number_of text)) (up_to-numbers (2 ^ 20) (number_of text) (omega arith)) w
slot-leads row b d Small text w =
    small-leads row b d (up_to 31 (number_of text)) (up_to-numbers 32 (number_of text) (omega arith)) w
slot-leads row b d Csr text w =
    imm-leads row b d (below 4096) (named_or (csr_named text) (up_to 4095 (number_of text)))
    (named_or-numbers 4096 (csr_named text) (up_to 4095 (number_of text)) (csr_named-below text)
    (up_to-numbers 4096 (number_of text) (omega arith))) w
slot-leads row b d Special text w =
    special-leads row b d (named_or (scr_named text) (up_to 31 (number_of text)))
    (named_or-numbers 32 (scr_named text) (up_to 31 (number_of text)) (scr_named-below text)
    (up_to-numbers 32 (number_of text) (omega arith))) w
slot-leads row b d (Address naming) text w =
    test-leads row (bounds_with (Address naming) b) d (has_brackets text) _
    (address-leads row b d (register_named (in_brackets text)) (signed_12 (displacement (before_bracket text)))
    (register_named-below (in_brackets text)) (signed_12-numbers (displacement (before_bracket text))) w)
slot-leads row b d (Authority naming) text w =
    test-leads row (bounds_with (Authority naming) b) d (has_brackets text && (length (before_bracket text) == 0)) _
    (rs1-leads row b d (register_named (in_brackets text)) (register_named-below (in_brackets text)) w)
slot-leads row b d (Target bits) text w = target-leads row b d (expression_of text) w

-- no fault is told where neither operand has one
told_fault-None : (first later : Option LineFault) → told_fault first later ≡ None → (first ≡ None) × (later ≡ None)
told_fault-None None later e = (refl, e)
told_fault-None (Some fault) None e = cc
told_fault-None (Some fault) (Some A1) e = cc
told_fault-None (Some fault) (Some A2) e = cc
told_fault-None (Some fault) (Some A3) e = cc
told_fault-None (Some fault) (Some A8) e = cc
told_fault-None (Some fault) (Some A9) e = cc

-- operands without a fault make a draft within the bounds of their slots
pub filled-within : (ss : List Slot) (ps : List (List ℕ)) (row : Row) (b : Bounds) (d : Draft) → IsWithin row b d
    → filled_fault ss ps d ≡ None → IsWithin row (bounds_of ss b) (filled_draft ss ps d)
filled-within [] [] row b d w e = w
filled-within [] (p ∷ ps) row b d w e = cc
filled-within (s ∷ ss) [] row b d w e = cc
filled-within (s ∷ ss) (p ∷ ps) row b d w e =
    let parts = told_fault-None (fault_of (filled_slot s p d)) (filled_fault ss ps (draft_after d (filled_slot s p d))) e in
    filled-within ss ps row (bounds_with s b) (draft_after d (filled_slot s p d)) (slot-leads row b d s p w parts.0) parts.1
