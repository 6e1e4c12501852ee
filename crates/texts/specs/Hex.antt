-- Numbers in lower-case hexadecimal digits.
use Rattle.std.specs.Prelude.{ℕ, zero, suc, ◌/◌, ◌%◌, List, [], ◌∷◌, ◌++◌, codes}
use Rattle.std.specs.Fmt.{digit_glyph, digits}
use Rattle.std.specs.Prelude.{false}

-- the lowest so many digits of a number, with leading zeros
unfoldable pub hex_of : ℕ → ℕ → List ℕ
hex_of zero n = []
hex_of (suc k) n = hex_of k (n / 16) ++ digit_glyph false (n % 16) ∷ []

-- `0x` and its digits, without leading zeros
abbrev pub short_hex : ℕ → List ℕ
short_hex n = codes "0x" ++ digits 16 false n
