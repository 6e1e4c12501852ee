-- The length's mantissa from the low 12 bits of T and B alone, and T from it.
use Rattle.std.proofs.Common.{◌≡◌, ℕ, ◌+◌, ◌-◌, ◌*◌, ◌/◌, ◌%◌, ◌^◌, ◌<◌, Bool, true, false, ltb, bit_and, refl, ap, ◌∙◌, arith}
use Rattle.std.proofs.lemmas.Nat.{and_mask}
use Rattle.std.proofs.lemmas.Bool.{ltb-true, ltb-false}
use Rattle.base.specs.Bits.{bit}
use Rattle.cap_format.specs.Word.{ie_of, t_field_of, b_field_of}
use Rattle.cap_bounds.specs.Mantissa.{base_mantissa, low_top_mantissa, top_mantissa, length_mantissa}
use Rattle.cap_bounds.specs.MantissaLaws.{base_mantissa-below, low_top_mantissa-below}
use Rattle.cap_bounds.specs.WordLaws.{bit-small}

-- the carry and the internal exponent are what the difference of the low 12 bits leaves out
length_by_difference : (b t i : ℕ) (carry : Bool) → b < 16384 → t < 4096 → i < 2 → ltb t (b % 4096) ≡ carry
    → ((b / 4096 + bit carry + i) % 4 * 4096 + t + 16384 - b) % 16384 ≡ (t + (2 ^ 64 - b)) % 2 ^ 64 % 4096 + i * 4096
length_by_difference b t i true base low small e = let under = ltb-true t (b % 4096) e in omega arith
length_by_difference b t i false base low small e = let over = ltb-false t (b % 4096) e in omega arith

length_mantissa-difference : (word : ℕ)
    → length_mantissa word ≡ (low_top_mantissa word + (2 ^ 64 - base_mantissa word)) % 2 ^ 64 % 4096 + bit (ie_of word) * 4096
unfolding length_mantissa top_mantissa
length_mantissa-difference word =
    length_by_difference (base_mantissa word) (low_top_mantissa word) (bit (ie_of word))
    (ltb (low_top_mantissa word) (base_mantissa word % 4096))
    (base_mantissa-below word) (low_top_mantissa-below word) (bit-small (ie_of word)) refl

-- with an internal exponent, whose bits stand in the fields' low three
pub length_mantissa-internal : (word t b : ℕ) → ie_of word ≡ true → t ≡ t_field_of word → b ≡ b_field_of word
    → bit_and ((t / 8 * 8 % 2 ^ 64 + (2 ^ 64 - b / 8 * 8 % 2 ^ 64)) % 2 ^ 64) 4095 + 4096 ≡ length_mantissa word
unfolding base_mantissa low_top_mantissa
length_mantissa-internal word t b internal high low =
    let difference = rw internal at (length_mantissa-difference word) in
    ap (λ n. n + 4096) (and_mask ((t / 8 * 8 % 2 ^ 64 + (2 ^ 64 - b / 8 * 8 % 2 ^ 64)) % 2 ^ 64) 12) ∙ omega arith

-- without one
pub length_mantissa-clear : (word t b : ℕ) → ie_of word ≡ false → t ≡ t_field_of word → b ≡ b_field_of word
    → bit_and ((t + (2 ^ 64 - b)) % 2 ^ 64) 4095 ≡ length_mantissa word
unfolding base_mantissa low_top_mantissa
length_mantissa-clear word t b clear high low =
    let difference = rw clear at (length_mantissa-difference word) in
    and_mask ((t + (2 ^ 64 - b)) % 2 ^ 64) 12 ∙ omega arith

-- T is B and L, modulo 2 ^ 14
pub top_mantissa-below : (word : ℕ) → top_mantissa word < 16384
unfolding top_mantissa
top_mantissa-below word = omega (arith, low_top_mantissa-below word)

pub top_mantissa-sum : (word : ℕ) → top_mantissa word ≡ (base_mantissa word + length_mantissa word) % 16384
unfolding length_mantissa
top_mantissa-sum word =
    let small = top_mantissa-below word in
    let base = base_mantissa-below word in
    omega arith
