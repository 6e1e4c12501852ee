-- The bounds of any word by corrections (UCAM-CL-TR-987, CHERI Concentrate, decoding). The address, the base and the top are cut
-- at bit E + 14 and their 14 bits from E on compared by their highest three: each is high if those are below the edge.
use Rattle.std.specs.Prelude.{◌≡◌, ℕ, ℤ, pos, ◌+◌, ◌-◌, ◌*◌, ◌/◌, ◌%◌, ◌^◌, ◌+ℤ◌, ◌-ℤ◌, ◌*ℤ◌, Bool, ◌&&◌, nat_lt, unsigned_abs}
use Rattle.std.specs.Prelude.{if◌then◌else◌}
use Rattle.std.specs.Int.{int_rem_euclid}
use Rattle.base.specs.Bits.{bit}
use Rattle.cap_format.specs.Word.{address_of}
use Rattle.cap_bounds.specs.Mantissa.{exponent_of, base_mantissa, top_mantissa}
use Rattle.cap_bounds.specs.Window.{base_of_word, top_of_word}
use Rattle.word_cap.specs.declared.word_parts.Parts.{Parts}

-- bits 13..11 of a number
abbrev pub eighth_of : ℕ → ℕ
eighth_of n = n / 2 ^ 11 % 8

-- the eighth before B's, modulo 8
abbrev pub edge_of : ℕ → ℕ
edge_of b = (eighth_of b + 7) % 8

-- 1 if the number is high, else 0
abbrev pub high : ℕ → ℕ → ℕ
high edge n = bit (nat_lt (eighth_of n) edge)

-- the correction of a mantissa: whether it is high, less whether the address shifted right by E is
abbrev pub correction : ℕ → ℕ → ℕ → ℕ → ℤ
correction edge e address mantissa = pos (high edge mantissa) -ℤ pos (high edge (address / 2 ^ e))

-- what is left of a whole number modulo n
abbrev pub modulo : ℤ → ℕ → ℕ
modulo z n = unsigned_abs (int_rem_euclid z (pos n))

-- (A + correction) * 2 ^ (E + 14) + mantissa * 2 ^ E, where A is the address shifted right by E + 14
abbrev pub corrected : ℕ → ℕ → ℤ → ℕ → ℤ
corrected e address step mantissa = (pos (address / 2 ^ (e + 14)) +ℤ step) *ℤ pos (2 ^ (e + 14)) +ℤ pos (mantissa * 2 ^ e)

-- the base, modulo 2 ^ 64
unfoldable pub corrected_base : ℕ → ℕ → ℤ → ℕ → ℕ
corrected_base e address step b = modulo (corrected e address step b) (2 ^ 64)

-- the top, modulo 2 ^ 65, before its bit 64 is looked at
unfoldable pub corrected_top : ℕ → ℕ → ℤ → ℕ → ℕ
corrected_top e address step t = modulo (corrected e address step t) (2 ^ 65)

-- Bit 64 of the top is inverted if E is below 51 and the top's bits 64..63 less the base's bit 63, modulo 4, are above 1.
unfoldable pub is_flipped : ℕ → ℕ → ℕ → Bool
is_flipped e base top = nat_lt e 51 && nat_lt 1 ((top / 2 ^ 63 + 4 - base / 2 ^ 63) % 4)

-- a number of 65 bits with bit 64 inverted
abbrev pub flipped : ℕ → ℕ
flipped top = (top + 2 ^ 64) % 2 ^ 65

-- the bounds that parts give with an address
abbrev pub base_by_parts : Parts → ℕ → ℕ
base_by_parts parts address = corrected_base parts.e address parts.base_step parts.b

abbrev pub top_by_parts : Parts → ℕ → ℕ
top_by_parts parts address =
    let top = corrected_top parts.e address parts.top_step parts.t in if parts.flip then flipped top else top

-- These are the parts of a word.
pub record ArePartsOf (word : ℕ) (parts : Parts) : Type 0 where
  pub exponent : parts.e ≡ exponent_of word
  pub base_mantissa : parts.b ≡ base_mantissa word
  pub top_mantissa : parts.t ≡ top_mantissa word
  pub edge : parts.edge ≡ edge_of parts.b
  pub base_step : parts.base_step ≡ correction parts.edge parts.e (address_of word) parts.b
  pub top_step : parts.top_step ≡ correction parts.edge parts.e (address_of word) parts.t
  pub flip : parts.flip
      ≡ is_flipped parts.e (base_by_parts parts (address_of word)) (corrected_top parts.e (address_of word) parts.top_step parts.t)

-- The bounds that they give are those of the word, by windows.
pub record GiveBoundsOf (word : ℕ) (parts : Parts) : Type 0 where
  pub base : base_by_parts parts (address_of word) ≡ base_of_word word
  pub top : top_by_parts parts (address_of word) ≡ top_of_word word
