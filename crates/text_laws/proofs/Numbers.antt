-- Numbers that are shown are read as themselves.
use Rattle.std.proofs.Common.{◌≡◌, ℕ, zero, suc, ◌+◌, ◌-◌, ◌*◌, ◌/◌, ◌%◌, ◌^◌, ◌<◌, ◌≤◌, ◌⊎◌, inl, inr, Bool, true, false, not, ◌&&◌, List}
use Rattle.std.proofs.Common.{[], ◌∷◌, ◌++◌, refl, sym, ap, subst, ◌∙◌, arith, length, get_or, length-append}
use Rattle.std.specs.Prelude.{pos, negsuc, neg_ℤ, Ok, ◌==◌, nat_lt, slice_index, decimal}
use Rattle.std.specs.Char.{digit_value}
use Rattle.std.specs.Fmt.{digit_glyph, digits, signed_decimal}
use Rattle.std.specs.Int.{w64, cast_signed}
use Rattle.std.specs.Str.Parse.{AllDigits, digits_value, digits_value_after}
use Rattle.std.proofs.lemmas.Bool.Decides.{nat_tests}
use Rattle.std.proofs.lemmas.List.{get_or_past}
use Rattle.std.proofs.lemmas.Fmt.{decimal_is_IsNumeral, digits_is_IsNumeral, length-decimal-le}
use Rattle.std.proofs.lemmas.Int.{to_z_pos}
use Rattle.std.proofs.Math.Facts.{to_z-neg}
use Rattle.asm_lines.specs.Number.{is_numeral, is_in_limits, limited, is_hexadecimal, is_negative, number_of}
use Rattle.asm_lines.specs.Operand.{wrapped}
use Rattle.texts.specs.Hex.{hex_of, short_hex}
use Rattle.disassembler.specs.Shown.{shown_signed}
use Rattle.text_laws.proofs.Cut.{every, every-append, every_weaker, every_at, prefix_every, is_plain, IsPlain}
use Rattle.texts.specs.HexLaws.{order}

-- digits of a radix, as a test and as a fact
abbrev pub is_digit_in : ℕ → ℕ → Bool
is_digit_in radix d = nat_lt (digit_value d) radix

every_digit : (radix : ℕ) (ds : List ℕ) → AllDigits radix ds → every (is_digit_in radix) ds ≡ true
every_digit radix [] h = refl
every_digit radix (d ∷ ds) h =
    let here : is_digit_in radix d ≡ true = let k = h.0 in grind (arith, nat_tests) in
    let rest = every_digit radix ds h.1 in
    rw (here, rest)

hex_digit_plain : (d : ℕ) → is_digit_in 16 d ≡ true → is_plain d ≡ true
hex_digit_plain d h = grind (arith, nat_tests)

digit_byte : (d : ℕ) → is_digit_in 10 d ≡ true → (48 ≤ d) × (d ≤ 57)
digit_byte d h = (grind (arith, nat_tests), grind (arith, nat_tests))

pub hex_plain : (ds : List ℕ) → every (is_digit_in 16) ds ≡ true → every is_plain ds ≡ true
hex_plain ds h = every_weaker (is_digit_in 16) is_plain ds hex_digit_plain h

decimal_plain : (ds : List ℕ) → every (is_digit_in 10) ds ≡ true → every is_plain ds ≡ true
decimal_plain ds h = every_weaker (is_digit_in 10) is_plain ds (λ d k. let r = digit_byte d k in grind (arith, nat_tests)) h

-- a digit or nothing stands where it is
at_digit : (ds : List ℕ) (k c : ℕ) → every (is_digit_in 10) ds ≡ true → 0 < c → (c < 48) ⊎ (57 < c) → (slice_index ds k == c) ≡ false
at_digit ds k c h some out = elim (order k (length ds)) [
  | inl l ↦ let r = digit_byte (get_or ds k 0) (every_at (is_digit_in 10) ds k 0 h l) in grind (arith, nat_tests)
  | inr g ↦ let e = get_or_past ds k 0 g in grind (arith, nat_tests)
]

numeral_test : (radix : ℕ) (ds : List ℕ) → 0 < length ds → every (is_digit_in radix) ds ≡ true → is_numeral radix ds ≡ true
numeral_test radix ds some h =
    let all = prefix_every (is_digit_in radix) ds h in
    grind (arith, nat_tests)

limited_pos : (n : ℕ) → n < 2 ^ 64 → limited (pos n) ≡ Ok (pos n)
limited_pos n h = let t : is_in_limits (pos n) ≡ true = grind (arith, nat_tests) in rw t refl

limited_negsuc : (n : ℕ) → n < 2 ^ 63 → limited (negsuc n) ≡ Ok (negsuc n)
limited_negsuc n h = let t : is_in_limits (negsuc n) ≡ true = grind (arith, nat_tests) in rw t refl

number_plain : (ds : List ℕ) → is_hexadecimal ds ≡ false → is_negative ds ≡ false → is_numeral 10 ds ≡ true
    → number_of ds ≡ limited (pos (digits_value 10 ds))
unfolding number_of
number_plain ds a b c = rw (a, b, c) refl

number_minus : (ds : List ℕ) → is_numeral 10 ds ≡ true → number_of (45 ∷ ds) ≡ limited (neg_ℤ (pos (digits_value 10 ds)))
unfolding number_of
number_minus ds a = rw a refl

number_hex : (ds : List ℕ) → is_numeral 16 ds ≡ true → number_of (48 ∷ 120 ∷ ds) ≡ limited (pos (digits_value 16 ds))
unfolding number_of
number_hex ds a = rw a refl

and_false : (a b : Bool) → b ≡ false → (a && b) ≡ false
and_false true b h = h
and_false false b h = refl

-- decimal numbers
pub number_decimal : (n : ℕ) → n < 2 ^ 64 → number_of (decimal n) ≡ Ok (pos n)
number_decimal n h =
    let k = decimal_is_IsNumeral n h in
    let ds = every_digit 10 (decimal n) k.0.1 in
    let x = and_false (slice_index (decimal n) 0 == 48) (slice_index (decimal n) 1 == 120)
    (at_digit (decimal n) 1 120 ds (omega arith) (inr (omega arith))) in
    number_plain (decimal n) x (at_digit (decimal n) 0 45 ds (omega arith) (inl (omega arith))) (numeral_test 10 (decimal n) k.0.0 ds)
    ∙ ap (λ v. limited (pos v)) k.1 ∙ limited_pos n h

pub number_negative : (n : ℕ) → n < 2 ^ 63 → number_of (45 ∷ decimal (suc n)) ≡ Ok (negsuc n)
number_negative n h =
    let k = decimal_is_IsNumeral (suc n) (omega arith) in
    let ds = every_digit 10 (decimal (suc n)) k.0.1 in
    number_minus (decimal (suc n)) (numeral_test 10 (decimal (suc n)) k.0.0 ds) ∙ ap (λ v. limited (neg_ℤ (pos v))) k.1 ∙ limited_negsuc n h

pub plain_decimal : (n : ℕ) → n < 2 ^ 64 → IsPlain (decimal n)
plain_decimal n h =
    let k = decimal_is_IsNumeral n h in
    record { some = k.0.0; bytes = decimal_plain (decimal n) (every_digit 10 (decimal n) k.0.1) }

-- the signed reading of a number of 64 bits
pub signed_reading : (n : ℕ) → n < 2 ^ 64
    → ((n < 2 ^ 63) × (cast_signed w64 n ≡ pos n)) ⊎ ((2 ^ 63 ≤ n) × (cast_signed w64 n ≡ negsuc (2 ^ 64 - 1 - n)))
signed_reading n h = elim (order n (2 ^ 63)) [
  | inl l ↦ inl (l, to_z_pos w64 n l)
  | inr g ↦
      let e : n ≡ 2 ^ 64 - suc (2 ^ 64 - 1 - n) = omega arith in
      inr (g, ap (cast_signed w64) e ∙ to_z-neg w64 (2 ^ 64 - 1 - n) (omega arith))
]

pub wrapped_signed : (n : ℕ) → n < 2 ^ 64 → wrapped (cast_signed w64 n) ≡ n
wrapped_signed n h = elim (signed_reading n h) [
  | inl p ↦ ap wrapped p.1 ∙ omega arith
  | inr p ↦ ap wrapped p.1 ∙ omega arith
]

pub number_signed : (n : ℕ) → n < 2 ^ 64 → number_of (shown_signed n) ≡ Ok (cast_signed w64 n)
number_signed n h = elim (signed_reading n h) [
  | inl p ↦ ap (λ z. number_of (signed_decimal z)) p.1 ∙ number_decimal n h ∙ ap Ok (sym p.1)
  | inr p ↦ ap (λ z. number_of (signed_decimal z)) p.1 ∙ number_negative (2 ^ 64 - 1 - n) (omega arith) ∙ ap Ok (sym p.1)
]

plain_negative : (n : ℕ) → n < 2 ^ 63 → IsPlain (45 ∷ decimal (suc n))
plain_negative n h =
    let k = plain_decimal (suc n) (omega arith) in
    record { some = omega arith; bytes = k.bytes }

pub plain_signed : (n : ℕ) → n < 2 ^ 64 → IsPlain (shown_signed n)
plain_signed n h = elim (signed_reading n h) [
  | inl p ↦ subst (λ z. IsPlain (signed_decimal z)) (sym p.1) (plain_decimal n h)
  | inr p ↦ subst (λ z. IsPlain (signed_decimal z)) (sym p.1) (plain_negative (2 ^ 64 - 1 - n) (omega arith))
]

-- hexadecimal numbers, without and with leading zeros
pub number_short_hex : (n : ℕ) → n < 2 ^ 64 → number_of (short_hex n) ≡ Ok (pos n)
number_short_hex n h =
    let k = digits_is_IsNumeral 16 false (omega arith) (omega arith) n (omega arith) in
    number_hex (digits 16 false n) (numeral_test 16 (digits 16 false n) k.0.0 (every_digit 16 (digits 16 false n) k.0.1))
    ∙ ap (λ v. limited (pos v)) k.1 ∙ limited_pos n h

pub plain_short_hex : (n : ℕ) → n < 2 ^ 64 → IsPlain (short_hex n)
plain_short_hex n h =
    let k = digits_is_IsNumeral 16 false (omega arith) (omega arith) n (omega arith) in
    record { some = omega arith; bytes = hex_plain (digits 16 false n) (every_digit 16 (digits 16 false n) k.0.1) }

value_after-append : (radix m : ℕ) (ds : List ℕ) (d : ℕ)
    → digits_value_after radix m (ds ++ d ∷ []) ≡ digits_value_after radix m ds * radix + digit_value d
value_after-append radix m [] d = refl
value_after-append radix m (c ∷ cs) d = value_after-append radix (m * radix + digit_value c) cs d

glyph_value : (d : ℕ) → d < 16 → digit_value (digit_glyph false d) ≡ d
glyph_value d h = grind (arith, nat_tests)

glyph_digit : (d : ℕ) → d < 16 → is_digit_in 16 (digit_glyph false d) ≡ true
glyph_digit d h = let e = glyph_value d h in grind (arith, nat_tests)

hex_of_digits : (k n : ℕ) → every (is_digit_in 16) (hex_of k n) ≡ true
unfolding hex_of
hex_of_digits zero n = refl
hex_of_digits (suc k) n =
    every-append (is_digit_in 16) (hex_of k (n / 16)) (digit_glyph false (n % 16) ∷ []) (hex_of_digits k (n / 16))
    (let e = glyph_digit (n % 16) (omega arith) in rw e refl)

hex_of_length : (k n : ℕ) → length (hex_of k n) ≡ k
unfolding hex_of
hex_of_length zero n = refl
hex_of_length (suc k) n = omega (arith, length-append (hex_of k (n / 16)) (digit_glyph false (n % 16) ∷ []), hex_of_length k (n / 16))

hex_of_value : (k n : ℕ) → n < 16 ^ k → digits_value 16 (hex_of k n) ≡ n
unfolding hex_of
hex_of_value zero n h = omega arith
hex_of_value (suc k) n h =
    let front = hex_of_value k (n / 16) (omega arith) in
    let last = glyph_value (n % 16) (omega arith) in
    let both = value_after-append 16 0 (hex_of k (n / 16)) (digit_glyph false (n % 16)) in
    omega (arith, front, last, both)

pub number_word : (n : ℕ) → n < 2 ^ 32 → number_of (48 ∷ 120 ∷ hex_of 8 n) ≡ Ok (pos n)
number_word n h =
    let some = hex_of_length 8 n in
    number_hex (hex_of 8 n) (numeral_test 16 (hex_of 8 n) (omega arith) (hex_of_digits 8 n))
    ∙ ap (λ v. limited (pos v)) (hex_of_value 8 n (omega arith)) ∙ limited_pos n (omega arith)

pub plain_word : (n : ℕ) → IsPlain (48 ∷ 120 ∷ hex_of 8 n)
plain_word n = record { some = omega arith; bytes = hex_plain (hex_of 8 n) (hex_of_digits 8 n) }

pub length_word : (n : ℕ) → length (48 ∷ 120 ∷ hex_of 8 n) ≡ 10
length_word n = omega (arith, hex_of_length 8 n)

-- a number has no bracket, and is at most 20 bytes long
decimal_unbracketed : (ds : List ℕ) → every (is_digit_in 10) ds ≡ true → every (λ b. not (b == 40)) ds ≡ true
decimal_unbracketed ds h =
    every_weaker (is_digit_in 10) (λ b. not (b == 40)) ds (λ d k. let r = digit_byte d k in grind (arith, nat_tests)) h

unbracketed_decimal : (n : ℕ) → n < 2 ^ 64 → every (λ b. not (b == 40)) (decimal n) ≡ true
unbracketed_decimal n h = decimal_unbracketed (decimal n) (every_digit 10 (decimal n) (decimal_is_IsNumeral n h).0.1)

pub unbracketed_signed : (n : ℕ) → n < 2 ^ 64 → every (λ b. not (b == 40)) (shown_signed n) ≡ true
unbracketed_signed n h = elim (signed_reading n h) [
  | inl p ↦ subst (λ z. every (λ b. not (b == 40)) (signed_decimal z) ≡ true) (sym p.1) (unbracketed_decimal n h)
  | inr p ↦ subst (λ z. every (λ b. not (b == 40)) (signed_decimal z) ≡ true) (sym p.1)
      (unbracketed_decimal (suc (2 ^ 64 - 1 - n)) (omega arith))
]

pub short_decimal : (n : ℕ) → n < 2 ^ 64 → length (decimal n) ≤ 20
short_decimal n h = length-decimal-le 20 n (omega arith) (omega arith) h

pub short_signed : (n : ℕ) → n < 2 ^ 64 → length (shown_signed n) ≤ 21
short_signed n h = elim (signed_reading n h) [
  | inl p ↦ subst (λ z. length (signed_decimal z) ≤ 21) (sym p.1) (let k = short_decimal n h in omega arith)
  | inr p ↦ subst (λ z. length (signed_decimal z) ≤ 21) (sym p.1)
      (let k = short_decimal (suc (2 ^ 64 - 1 - n)) (omega arith) in omega arith)
]
