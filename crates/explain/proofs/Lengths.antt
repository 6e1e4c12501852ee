-- How long texts are.
use Rattle.std.proofs.Common.{◌≡◌, ℕ, zero, suc, Bool, true, false, [], ◌∷◌, length, refl, ◌∙◌, length-append, arith}
use Rattle.std.specs.Prelude.{◌/◌, ◌%◌}
use Rattle.std.specs.Fmt.{digit_glyph}
use Rattle.cap_bounds.specs.CapValue.{CapValue}
use Rattle.texts.specs.Hex.{hex_of}
use Rattle.explain.specs.ValueText.{digit, shown_value}

pub length_hex_of : (width n : ℕ) → length (hex_of width n) ≡ width
unfolding hex_of
length_hex_of zero n = refl
length_hex_of (suc k) n =
    let before = length_hex_of k (n / 16) in
    length-append (hex_of k (n / 16)) (digit_glyph false (n % 16) ∷ []) ∙ omega arith

length_digit : (b : Bool) → length (digit b) ≡ 1
length_digit true = refl
length_digit false = refl

pub length_shown_value : (v : CapValue) → length (shown_value v) ≡ 81
unfolding shown_value
length_shown_value v = grind (arith, length-append, length_hex_of, length_digit)
