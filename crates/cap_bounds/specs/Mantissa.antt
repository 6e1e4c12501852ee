-- The exponent E and the mantissas B and T of a word (UCAM-CL-TR-987, CHERI Concentrate, decoding).
use Rattle.std.specs.Prelude.{◌≡◌, ℕ, ◌+◌, ◌-◌, ◌*◌, ◌/◌, ◌%◌, ◌^◌, ◌<◌, ◌≤◌, Bool, true, false, nat_lt, min, if◌then◌else◌}
use Rattle.base.specs.Bits.{bit}
use Rattle.cap_format.specs.Word.{t_field_of, b_field_of, ie_of}

-- The greatest exponent, and the one of null and root. The six bits can also say 53 to 63, which are read as 52 (profile).
abbrev pub greatest_exponent : ℕ
greatest_exponent = 52

-- E: with an internal exponent, the low three bits of T are its high half and the low three bits of B its low half
unfoldable pub exponent_of : ℕ → ℕ
exponent_of word = if ie_of word then min (t_field_of word % 8 * 8 + b_field_of word % 8) greatest_exponent else 0

-- a mantissa's field, without the three bits that an internal exponent takes from it
abbrev pub without_exponent : Bool → ℕ → ℕ
without_exponent ie field = if ie then field / 8 * 8 else field

-- B, 14 bits
unfoldable pub base_mantissa : ℕ → ℕ
base_mantissa word = without_exponent (ie_of word) (b_field_of word)

-- the low 12 bits of T
unfoldable pub low_top_mantissa : ℕ → ℕ
low_top_mantissa word = without_exponent (ie_of word) (t_field_of word)

-- T, 14 bits: its top two are B's, one more where its low 12 bits are below B's, and one more with an internal exponent
unfoldable pub top_mantissa : ℕ → ℕ
top_mantissa word =
    (base_mantissa word / 2 ^ 12 + bit (nat_lt (low_top_mantissa word) (base_mantissa word % 2 ^ 12)) + bit (ie_of word)) % 4 * 2 ^ 12
    + low_top_mantissa word

-- L, the length's mantissa: T - B modulo 2 ^ 14
unfoldable pub length_mantissa : ℕ → ℕ
length_mantissa word = (top_mantissa word + 2 ^ 14 - base_mantissa word) % 2 ^ 14

-- the length's mantissa has 12 bits, or with an internal exponent 13 bits with the highest set, whatever the word
abbrev pub LengthMantissaIsInRange : Type 0
LengthMantissaIsInRange =
    (word : ℕ)
    → (ie_of word ≡ false → length_mantissa word < 4096)
    × (ie_of word ≡ true → (4096 ≤ length_mantissa word) × (length_mantissa word < 8192))
