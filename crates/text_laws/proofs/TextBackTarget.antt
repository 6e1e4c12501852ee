-- The target of a row, a distance from the place where the row stands, is in the limits of numbers and within the row's reach.
use Rattle.std.proofs.Common.{◌≡◌, ℕ, ◌-◌, ◌%◌, ◌^◌, ◌<◌, inl, inr, Bool, true, false, refl, sym, ap, subst, ◌∙◌, arith}
use Rattle.std.specs.Prelude.{ℤ, pos, negsuc, ◌+ℤ◌, ◌-ℤ◌}
use Rattle.std.specs.Int.{w64, cast_signed}
use Rattle.std.proofs.lemmas.Bool.Decides.{nat_tests}
use Rattle.std.proofs.lemmas.Int.{ints}
use Rattle.base.specs.Ram.{ram_base}
use Rattle.isa_rows.specs.declared.formats.Format.{Format}
use Rattle.isa_rows.specs.declared.formats.Format.TheVariants.{Jump, Branch}
use Rattle.isa_rows.specs.declared.operands.Insn.{Insn}
use Rattle.isa_rows.specs.declared.rows.Row.{Row}
use Rattle.isa_rows.specs.declared.rows.Row.TheVariants.{Lui}
use Rattle.isa_rows.specs.Line.{line_of}
use Rattle.isa_rows.specs.Operands.{IsBranchOffset, IsJumpOffset, OperandsFit}
use Rattle.asm_names.specs.Slots.{slots_of}
use Rattle.asm_lines.specs.Number.{is_in_limits}
use Rattle.asm_lines.specs.Operand.{wrapped}
use Rattle.assembler.specs.Values.{reach_of, is_reached}
use Rattle.text_laws.specs.ReadBack.{has_target}
use Rattle.text_laws.proofs.Numbers.{signed_reading, wrapped_signed}

-- the formats whose immediate is a distance, and the rows that are written with one
abbrev pub is_target_format : Format → Bool
is_target_format Branch = true
is_target_format Jump = true
is_target_format _ = false

pub target_format : (r : Row) → has_target (slots_of r) ≡ is_target_format (line_of r).format
unfolding line_of
target_format Lui = refl
target_format _ = refl

-- a distance that is reached, from the beginning of RAM
pub record IsNear (reach : ℕ) (distance : ℤ) : Type 0 where
  pub in_limits : is_in_limits (pos ram_base +ℤ distance) ≡ true
  pub reached : is_reached reach ((pos ram_base +ℤ distance) -ℤ pos ram_base) ≡ true

pub back_again : (here distance : ℤ) → (here +ℤ distance) -ℤ here ≡ distance
back_again here distance = omega (arith, ints)

limits_pos : (n : ℕ) → n < 2 ^ 20 → is_in_limits (pos ram_base +ℤ pos n) ≡ true
limits_pos n h = grind (arith, nat_tests)

past : (n : ℕ) → n < 2 ^ 20 → pos ram_base +ℤ negsuc n ≡ pos (ram_base - 1 - n)
past n h = omega (arith, ints)

limits_number : (n : ℕ) → n < 2 ^ 32 → is_in_limits (pos n) ≡ true
limits_number n h = grind (arith, nat_tests)

limits_negsuc : (n : ℕ) → n < 2 ^ 20 → is_in_limits (pos ram_base +ℤ negsuc n) ≡ true
limits_negsuc n h = ap is_in_limits (past n h) ∙ limits_number (ram_base - 1 - n) (omega arith)

branch_pos : (n : ℕ) → n < 4096 → wrapped (pos n) % 2 ≡ 0 → is_reached 4096 (pos n) ≡ true
branch_pos n h e = grind (arith, nat_tests)

branch_negsuc : (n : ℕ) → n < 4096 → wrapped (negsuc n) % 2 ≡ 0 → is_reached 4096 (negsuc n) ≡ true
branch_negsuc n h e = grind (arith, nat_tests)

jump_pos : (n : ℕ) → n < 1048576 → wrapped (pos n) % 2 ≡ 0 → is_reached 1048576 (pos n) ≡ true
jump_pos n h e = grind (arith, nat_tests)

jump_negsuc : (n : ℕ) → n < 1048576 → wrapped (negsuc n) % 2 ≡ 0 → is_reached 1048576 (negsuc n) ≡ true
jump_negsuc n h e = grind (arith, nat_tests)

near : (reach : ℕ) (distance : ℤ) → is_in_limits (pos ram_base +ℤ distance) ≡ true → is_reached reach distance ≡ true
    → IsNear reach distance
near reach distance limits reached =
    record { in_limits = limits; reached = ap (is_reached reach) (back_again (pos ram_base) distance) ∙ reached }

-- an offset's parity, as a distance
even : (n : ℕ) → n < 2 ^ 64 → n % 2 ≡ 0 → wrapped (cast_signed w64 n) % 2 ≡ 0
even n h e = ap (λ m. m % 2) (wrapped_signed n h) ∙ e

near_branch : (n : ℕ) → IsBranchOffset n → IsNear 4096 (cast_signed w64 n)
near_branch n h =
    let below : n < 2 ^ 64 = elim h.1 [ inl p ↦ omega arith | inr p ↦ omega (arith, p.1) ] in
    let two = even n below h.0 in
    elim (signed_reading n below) [
      | inl p ↦
          let small : n < 4096 = elim h.1 [ inl q ↦ omega arith | inr q ↦ absurd (omega (arith, p.0, q.0)) ] in
          subst (IsNear 4096) (sym p.1) (near 4096 (pos n) (limits_pos n (omega arith)) (branch_pos n small (rw p.1 at two)))
      | inr p ↦
          let small : 2 ^ 64 - 1 - n < 4096 = elim h.1 [ inl q ↦ absurd (omega (arith, p.0, q)) | inr q ↦ omega (arith, q.0, q.1) ] in
          subst (IsNear 4096) (sym p.1)
          (near 4096 (negsuc (2 ^ 64 - 1 - n)) (limits_negsuc (2 ^ 64 - 1 - n) (omega arith))
          (branch_negsuc (2 ^ 64 - 1 - n) small (rw p.1 at two)))
    ]

near_jump : (n : ℕ) → IsJumpOffset n → IsNear 1048576 (cast_signed w64 n)
near_jump n h =
    let below : n < 2 ^ 64 = elim h.1 [ inl p ↦ omega arith | inr p ↦ omega (arith, p.1) ] in
    let two = even n below h.0 in
    elim (signed_reading n below) [
      | inl p ↦
          let small : n < 1048576 = elim h.1 [ inl q ↦ omega arith | inr q ↦ absurd (omega (arith, p.0, q.0)) ] in
          subst (IsNear 1048576) (sym p.1) (near 1048576 (pos n) (limits_pos n (omega arith)) (jump_pos n small (rw p.1 at two)))
      | inr p ↦
          let small : 2 ^ 64 - 1 - n < 1048576 = elim h.1 [ inl q ↦ absurd (omega (arith, p.0, q)) | inr q ↦ omega (arith, q.0, q.1) ] in
          subst (IsNear 1048576) (sym p.1)
          (near 1048576 (negsuc (2 ^ 64 - 1 - n)) (limits_negsuc (2 ^ 64 - 1 - n) (omega arith))
          (jump_negsuc (2 ^ 64 - 1 - n) small (rw p.1 at two)))
    ]

-- the distance of an instruction whose format has one
pub near_target : (f : Format) (i : Insn) → is_target_format f ≡ true → OperandsFit f i → IsNear (reach_of f) (cast_signed w64 i.imm)
unfolding OperandsFit
near_target Branch i t h = near_branch i.imm h.imm_is
near_target Jump i t h = near_jump i.imm h.imm_is
near_target _ i t h = cc
