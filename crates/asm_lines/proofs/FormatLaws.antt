-- Which bounds of operands suit a format, and that operands within them fit it: folds over the fields of the format.
use Rattle.std.proofs.Common.{◌≡◌, ℕ, zero, suc, ◌-◌, ◌^◌, ◌<◌, ◌≤◌, inl, Bool, true, false, not, ◌&&◌, ◌||◌, ◌==◌, List, Option}
use Rattle.std.proofs.Common.{Some, None, refl, pow_pos, arith}
use Rattle.std.specs.Prelude.{nat_le}
use Rattle.std.proofs.Math.Nat.{zero-mod}
use Rattle.std.proofs.lemmas.Bool.Decides.{nat_tests}
use Rattle.isa_rows.specs.declared.formats.Format.{Format}
use Rattle.isa_rows.specs.declared.formats.Format.TheVariants.{Branch, Jump}
use Rattle.isa_rows.specs.declared.operands.Insn.{Insn}
use Rattle.isa_rows.specs.declared.rows.Row.{Row}
use Rattle.isa_rows.specs.Line.{line_of}
use Rattle.isa_rows.specs.InsnLaws.{Fits-OperandsFit}
use Rattle.isa_rows.specs.Operands.{bound, IsSignedOf, IsSignedAbove, IsInRange, OperandsFit}
use Rattle.isa_rows.specs.Shape.{Field, fields_of, is_signed, has_rd, has_rs1, has_rs2, bits_of, zeros_below}
use Rattle.asm_lines.specs.Number.{Expression}
use Rattle.asm_lines.specs.Operand.{Draft}
use Rattle.asm_lines.specs.Line.{IsTargetOffset, FitsAt}
use Rattle.asm_lines.proofs.SlotLaws.{IsMarked, Kind, below, signed, upper, Bounds, IsWithin, IsOfKind}

-- The registers' bounds lie within a format's.
abbrev pub has_registers : List Field → Bounds → Bool
has_registers fields b =
    nat_le b.rd (bound (has_rd fields)) && (nat_le b.rs1 (bound (has_rs1 fields)) && nat_le b.rs2 (bound (has_rs2 fields)))

-- A kind of numbers lies within the numbers of so many bits, of which some low ones are 0. A target's row has 0 in the immediate until the
-- target is known.
abbrev pub is_unsigned_kind : ℕ → Kind → Bool
is_unsigned_kind bits (below n) = nat_le n (2 ^ bits)
is_unsigned_kind bits signed = false
is_unsigned_kind bits upper = false

abbrev pub is_signed_kind : (zeros bits : ℕ) → Kind → Bool
is_signed_kind zeros bits (below n) = nat_le n 1 || ((zeros == 0) && nat_le n (2 ^ (bits - 1)))
is_signed_kind zeros bits signed = (zeros == 0) && (bits == 12)
is_signed_kind zeros bits upper = (zeros == 12) && (bits == 32)

abbrev pub has_kind : Bool → List Field → Kind → Bool
has_kind true fields k = is_signed_kind (zeros_below (bits_of fields) fields) (bits_of fields) k
has_kind false fields k = is_unsigned_kind (bits_of fields) k

-- only a branch and a jump have a target
abbrev pub may_have_target : Format → Bool → Bool
may_have_target Branch target = true
may_have_target Jump target = true
may_have_target other target = not target

abbrev pub suits : Format → Bounds → Bool
suits format b =
    has_registers (fields_of format) b
    && (has_kind (is_signed format) (fields_of format) b.imm && may_have_target format b.target)

-- a kind that a format has is in the range of its immediate
unsigned-kind : (bits n : ℕ) (k : Kind) → is_unsigned_kind bits k ≡ true → IsOfKind k n → n < 2 ^ bits
unsigned-kind bits n (below m) t h = grind (arith, nat_tests)
unsigned-kind bits n signed t h = cc
unsigned-kind bits n upper t h = cc

small-signed : (bits m n : ℕ) → (nat_le m 1 || nat_le m (2 ^ (bits - 1))) ≡ true → n < m → IsSignedOf bits n
small-signed bits m n t h = let some = pow_pos (bits - 1) in inl (grind (arith, nat_tests))

nought-above : (zeros bits n : ℕ) → n < 1 → IsSignedAbove zeros bits n
nought-above zero bits n h = small-signed bits 1 n refl h
nought-above (suc zeros) bits n h =
    let none : n ≡ 0 = omega arith in
    (rw none (zero-mod (2 ^ suc zeros)), small-signed bits 1 n refl h)

signed-kind : (zeros bits n : ℕ) (k : Kind) → is_signed_kind zeros bits k ≡ true → IsOfKind k n → IsSignedAbove zeros bits n
signed-kind zero bits n (below m) t h = small-signed bits m n t h
signed-kind (suc zeros) bits n (below m) t h =
    let few : m ≤ 1 = grind (arith, nat_tests) in
    nought-above (suc zeros) bits n (omega arith)
signed-kind zeros bits n signed t h =
    let a : zeros ≡ 0 = grind (arith, nat_tests) in
    let b : bits ≡ 12 = grind (arith, nat_tests) in
    rw (a, b) h
signed-kind zeros bits n upper t h =
    let a : zeros ≡ 12 = grind (arith, nat_tests) in
    let b : bits ≡ 32 = grind (arith, nat_tests) in
    rw (a, b) h

in-range : (sign : Bool) (fields : List Field) (n : ℕ) (k : Kind) → has_kind sign fields k ≡ true → IsOfKind k n → IsInRange sign fields n
in-range true fields n k t h = signed-kind (zeros_below (bits_of fields) fields) (bits_of fields) n k t h
in-range false fields n k t h = unsigned-kind (bits_of fields) n k t h

-- A draft within bounds that suit a format has operands that fit it, also with another number in the range of its immediate.
operands-fit : (format : Format) (r : Row) (b : Bounds) (d : Draft) (n : ℕ) → has_registers (fields_of format) b ≡ true → IsWithin r b d
    → IsInRange (is_signed format) (fields_of format) n → OperandsFit format (record d.insn { imm = n })
unfolding OperandsFit
operands-fit format r b d n t w h =
    let rd : b.rd ≤ bound (has_rd (fields_of format)) = grind (arith, nat_tests) in
    let rs1 : b.rs1 ≤ bound (has_rs1 (fields_of format)) = grind (arith, nat_tests) in
    let rs2 : b.rs2 ≤ bound (has_rs2 (fields_of format)) = grind (arith, nat_tests) in
    record {
      rd_below = omega (arith, w.rd_below);
      rs1_below = omega (arith, w.rs1_below);
      rs2_below = omega (arith, w.rs2_below);
      imm_is = h;
    }

-- no target where there may be none
no-target : (target : Bool) (e : Expression) → not target ≡ true → IsMarked target (Some e) → ⊥
no-target true e t m = cc
no-target false e t m = m

-- how far a target may be is in the range of the immediate
target-range : (format : Format) (target : Bool) (e : Expression) (n : ℕ) → may_have_target format target ≡ true
    → IsMarked target (Some e) → IsTargetOffset format n → IsInRange (is_signed format) (fields_of format) n
target-range Branch target e n t m h = h
target-range Jump target e n t m h = h
target-range _ target e n t m h = absurd (no-target target e t m)

-- the three parts of what suits a format
suited : (a b c : Bool) → (a && (b && c)) ≡ true → (a ≡ true) × (b ≡ true) × (c ≡ true)
suited a b c h = (grind (arith, nat_tests), grind (arith, nat_tests), grind (arith, nat_tests))

pub fits-at : (b : Bounds) (i : Insn) (target : Option Expression) → suits (line_of i.row).format b ≡ true
    → IsWithin i.row b (record { insn = i; target = target }) → FitsAt i target
fits-at b i None t w =
    let format = (line_of i.row).format in
    let s = suited (has_registers (fields_of format) b) _ _ t in
    Fits-OperandsFit i (operands-fit format i.row b _ i.imm s.0 w (in-range (is_signed format) (fields_of format) i.imm b.imm s.1 w.imm_is))
fits-at b i (Some e) t w =
    λ n h.
    let format = (line_of i.row).format in
    let s = suited (has_registers (fields_of format) b) _ _ t in
    Fits-OperandsFit (record i { imm = n })
    (operands-fit format i.row b _ n s.0 w (target-range format b.target e n s.2 w.target_is h))
