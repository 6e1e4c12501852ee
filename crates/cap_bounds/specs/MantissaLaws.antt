-- What the exponent and the mantissas of any word keep to.
use Rattle.std.proofs.Common.{◌≡◌, ℕ, ◌+◌, ◌-◌, ◌*◌, ◌/◌, ◌%◌, ◌<◌, ◌≤◌, Bool, true, false, ltb, min, refl, arith}
use Rattle.std.proofs.lemmas.Bool.{ltb-true, ltb-false, cond_both}
use Rattle.base.specs.Bits.{bit}
use Rattle.cap_format.specs.Word.{ie_of, b_field_of, t_field_of}
use Rattle.cap_bounds.specs.Mantissa.{exponent_of, base_mantissa, low_top_mantissa, top_mantissa, length_mantissa, without_exponent}
use Rattle.cap_bounds.specs.Mantissa.{LengthMantissaIsInRange}

-- an exponent is at most 52
pub exponent_of-high : (word : ℕ) → exponent_of word ≤ 52
unfolding exponent_of
exponent_of-high word =
    cond_both (ie_of word) (min (t_field_of word % 8 * 8 + b_field_of word % 8) 52) 0 (λ e. e ≤ 52) (λ _. omega arith) (λ _. omega arith)

-- a mantissa is no greater than its field
without_exponent-below : (ie : Bool) (field n : ℕ) → field < n → without_exponent ie field < n
without_exponent-below true field n small = omega arith
without_exponent-below false field n small = small

-- B has 14 bits
pub base_mantissa-below : (word : ℕ) → base_mantissa word < 16384
unfolding base_mantissa
base_mantissa-below word = without_exponent-below (ie_of word) (b_field_of word) 16384 (omega arith)

-- the low half of T has 12 bits
pub low_top_mantissa-below : (word : ℕ) → low_top_mantissa word < 4096
unfolding low_top_mantissa
low_top_mantissa-below word = without_exponent-below (ie_of word) (t_field_of word) 4096 (omega arith)

-- the top two bits of T, chosen by the carry and the internal exponent, leave the length's lowest 12 bits and that exponent's bit
length_by_carry : (b t i : ℕ) (carry : Bool) → b < 16384 → t < 4096 → i < 2 → ltb t (b % 4096) ≡ carry
    → (i * 4096 ≤ ((b / 4096 + bit carry + i) % 4 * 4096 + t + 16384 - b) % 16384)
    × (((b / 4096 + bit carry + i) % 4 * 4096 + t + 16384 - b) % 16384 < (i + 1) * 4096)
length_by_carry b t i true base low small e = let under = ltb-true t (b % 4096) e in (omega arith, omega arith)
length_by_carry b t i false base low small e = let over = ltb-false t (b % 4096) e in (omega arith, omega arith)

-- the length's mantissa has 12 bits, or with an internal exponent 13 with the highest set
pub length_mantissa-range : LengthMantissaIsInRange
unfolding length_mantissa top_mantissa
length_mantissa-range word =
    let b = base_mantissa word in
    let t = low_top_mantissa word in
    let range =
    λ (i : ℕ) (small : i < 2). length_by_carry b t i (ltb t (b % 4096)) (base_mantissa-below word)
    (low_top_mantissa-below word) small refl in
    (λ clear. rw clear (range 0 (omega arith)).1, λ set. rw set (omega (arith, range 1 (omega arith))))

-- a base of p units and a top of q, whose difference has 12 bits or 13 with the highest set, have that difference as length mantissa
pub length_from_mantissas : (p q i : ℕ) (carry : Bool) → i < 2 → p + i * 4096 ≤ q → q < p + (i + 1) * 4096
    → ltb (q % 4096) (p % 16384 % 4096) ≡ carry
    → ((p % 16384 / 4096 + bit carry + i) % 4 * 4096 + q % 4096 + 16384 - p % 16384) % 16384 ≡ q - p
length_from_mantissas p q i true small low high e = let under = ltb-true (q % 4096) (p % 16384 % 4096) e in omega arith
length_from_mantissas p q i false small low high e = let over = ltb-false (q % 4096) (p % 16384 % 4096) e in omega arith

-- the length's mantissa has 14 bits at most
pub length_mantissa-below : (word : ℕ) → length_mantissa word < 16384
unfolding length_mantissa
length_mantissa-below word = omega arith
