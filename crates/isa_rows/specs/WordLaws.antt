-- Laws of instruction words: what a word is under the table's masks, in quotients and remainders.
use Rattle.std.proofs.Common.{◌≡◌, ℕ, List, [], ◌∷◌, ◌+◌, ◌*◌, ◌/◌, ◌%◌, ◌^◌, ◌<◌, refl, sym, ap, ◌∙◌, subst, arith}
use Rattle.std.specs.Prelude.{bit_and}
use Rattle.std.proofs.lemmas.Nat.{and_block, and_mask, shr_split, mod_below, pow_pos}
use Rattle.isa_rows.specs.declared.formats.Format.{Format}
use Rattle.isa_rows.specs.declared.formats.Format.TheVariants.{Upper, Jump, Immediate, Unsigned, Store, Branch, Shift6, Shift5, Register}
use Rattle.isa_rows.specs.declared.formats.Format.TheVariants.{Whole, Unary, Pair}
use Rattle.isa_rows.specs.declared.rows.Row.{Row}
use Rattle.isa_rows.specs.declared.rows.Row.TheVariants.{Lui}
use Rattle.isa_rows.specs.Line.{mask_of, line_of, IsRow}
use Rattle.isa_rows.specs.Shape.{fields_of, between}
use Rattle.base.specs.Bits.{field}

-- opcode and funct3
abbrev pub low_fields : ℕ → ℕ
low_fields w = w % 2 ^ 7 + field w 12 3 * 2 ^ 12

-- a word's bits in these stretches
abbrev pub bits_in : List (ℕ × ℕ) → ℕ → ℕ
bits_in [] w = 0
bits_in ((low, count) ∷ rest) w = field w low count * 2 ^ low + bits_in rest w

-- what a word is under a format's mask
abbrev pub masked : Format → ℕ → ℕ
masked format w = bits_in (between 0 (fields_of format)) w

-- a word under a mask of two parts
pub and_parts : (w k high low : ℕ) → low < 2 ^ k
    → bit_and w (high * 2 ^ k + low) ≡ bit_and (w / 2 ^ k) high * 2 ^ k + bit_and (w % 2 ^ k) low
and_parts w k high low h =
    subst (λ v. bit_and v (high * 2 ^ k + low) ≡ bit_and (w / 2 ^ k) high * 2 ^ k + bit_and (w % 2 ^ k) low) (shr_split w k)
    (and_block k (w / 2 ^ k) high (w % 2 ^ k) low (mod_below w (2 ^ k) (pow_pos k)) h)

and_7f : (w : ℕ) → bit_and w 0x7F ≡ w % 2 ^ 7
and_7f w = and_mask w 7

and_707f : (w : ℕ) → bit_and w 0x707F ≡ low_fields w
and_707f w =
    let a = and_parts w 12 7 0x7F (omega arith) in
    let b = and_mask (w / 2 ^ 12) 3 in
    let c = and_mask (w % 2 ^ 12) 7 in
    omega (arith, a, b, c)

and_fe00707f : (w : ℕ) → bit_and w 0xFE00707F ≡ low_fields w + field w 25 7 * 2 ^ 25
and_fe00707f w =
    let a = and_parts w 25 0x7F 0x707F (omega arith) in
    let b = and_mask (w / 2 ^ 25) 7 in
    let c = and_707f (w % 2 ^ 25) in
    omega (arith, a, b, c)

and_fc00707f : (w : ℕ) → bit_and w 0xFC00707F ≡ low_fields w + field w 26 6 * 2 ^ 26
and_fc00707f w =
    let a = and_parts w 26 0x3F 0x707F (omega arith) in
    let b = and_mask (w / 2 ^ 26) 6 in
    let c = and_707f (w % 2 ^ 26) in
    omega (arith, a, b, c)

and_fff0707f : (w : ℕ) → bit_and w 0xFFF0707F ≡ low_fields w + field w 20 12 * 2 ^ 20
and_fff0707f w =
    let a = and_parts w 20 0xFFF 0x707F (omega arith) in
    let b = and_mask (w / 2 ^ 20) 12 in
    let c = and_707f (w % 2 ^ 20) in
    omega (arith, a, b, c)

and_fe007fff : (w : ℕ) → bit_and w 0xFE007FFF ≡ w % 2 ^ 15 + field w 25 7 * 2 ^ 25
and_fe007fff w =
    let a = and_parts w 25 0x7F 0x7FFF (omega arith) in
    let b = and_mask (w / 2 ^ 25) 7 in
    let c = and_mask (w % 2 ^ 25) 15 in
    omega (arith, a, b, c)

pub and-mask_of : (format : Format) (w : ℕ) → bit_and w (mask_of format) ≡ masked format w
and-mask_of Upper w = omega (arith, and_7f w)
and-mask_of Jump w = omega (arith, and_7f w)
and-mask_of Immediate w = omega (arith, and_707f w)
and-mask_of Unsigned w = omega (arith, and_707f w)
and-mask_of Store w = omega (arith, and_707f w)
and-mask_of Branch w = omega (arith, and_707f w)
and-mask_of Shift6 w = omega (arith, and_fc00707f w)
and-mask_of Shift5 w = omega (arith, and_fe00707f w)
and-mask_of Register w = omega (arith, and_fe00707f w)
and-mask_of Whole w = omega (arith, and_mask w 32)
and-mask_of Unary w = omega (arith, and_fff0707f w)
and-mask_of Pair w = omega (arith, and_fe007fff w)

-- each line has its format's mask, and its value has no bit outside
pub mask-line_of : (row : Row) → (line_of row).mask ≡ mask_of (line_of row).format
unfolding line_of
mask-line_of Lui = refl
mask-line_of _ = refl

pub masked-line_of : (row : Row) → masked (line_of row).format (line_of row).value ≡ (line_of row).value
unfolding line_of
masked-line_of Lui = refl
masked-line_of _ = refl

-- a row by arithmetic
pub IsRow-masked : (word : ℕ) (row : Row) → IsRow word row → masked (line_of row).format word ≡ (line_of row).value
unfolding IsRow
IsRow-masked word row h =
    sym (and-mask_of (line_of row).format word) ∙ ap (bit_and word) (sym (mask-line_of row)) ∙ h

pub IsRow-from_masked : (word : ℕ) (row : Row) → masked (line_of row).format word ≡ (line_of row).value → IsRow word row
unfolding IsRow
IsRow-from_masked word row h = ap (bit_and word) (mask-line_of row) ∙ and-mask_of (line_of row).format word ∙ h
