-- Digits of a number in base 16, the last one first.
use Rattle.std.proofs.Common.{◌≡◌, ℕ, zero, suc, ◌+◌, ◌-◌, ◌/◌, ◌%◌, ◌^◌, ◌<◌, ◌≤◌, ◌⊎◌, inl, inr}
use Rattle.std.proofs.Common.{false, cond, List, [], ◌∷◌, ◌++◌, refl, sym, ap, subst}
use Rattle.std.proofs.Common.{◌∙◌, append_assoc, arith}
use Rattle.std.specs.Prelude.{length, take, drop, IsUtf8, IsAscii}
use Rattle.std.proofs.Math.ListN.{drop_of_length-le}
use Rattle.std.proofs.lemmas.List.{drop-append-le, take_all}
use Rattle.std.specs.Fmt.{digit_glyph, digits_onto, digits}
use Rattle.std.proofs.Common.{length-append}
use Rattle.std.proofs.lemmas.Fmt.{hex_one_digit}
use Rattle.std.proofs.lemmas.Str.{IsAscii-append, IsUtf8-from_ascii}
use Rattle.std.proofs.lemmas.Bool.Decides.{nat_tests}
use Rattle.texts.specs.Hex.{hex_of}
use Rattle.std.proofs.lemmas.Bool.{eq-eqb, ne_eqb, cases_order}

abbrev spell : ℕ → ℕ → List ℕ → List ℕ
spell k n acc = digits_onto k 16 false n acc

abbrev last_glyph : ℕ → ℕ
last_glyph n = digit_glyph false (n % 16)

pub order : (m n : ℕ) → (m < n) ⊎ (n ≤ m)
order m n = elim (cases_order m n) [ inl e ↦ inr (omega arith) | inr o ↦ elim o [ inl l ↦ inl l | inr g ↦ inr (omega arith) ] ]

spell_last : (k n : ℕ) (acc : List ℕ) → n < 16 → spell (suc k) n acc ≡ last_glyph n ∷ acc
spell_last k n acc h = ap (λ t. cond t (last_glyph n ∷ acc) (spell k (n / 16) (last_glyph n ∷ acc))) (eq-eqb (n / 16) 0 (omega arith))

spell_next : (k n : ℕ) (acc : List ℕ) → 16 ≤ n → spell (suc k) n acc ≡ spell k (n / 16) (last_glyph n ∷ acc)
spell_next k n acc h = ap (λ t. cond t (last_glyph n ∷ acc) (spell k (n / 16) (last_glyph n ∷ acc))) (ne_eqb (n / 16) 0 (λ e. omega arith))

spell-append : (k n : ℕ) (acc : List ℕ) → spell k n acc ≡ spell k n [] ++ acc
spell-append zero n acc = refl
spell-append (suc k) n acc = elim (order n 16) [
  | inl l ↦ spell_last k n acc l ∙ ap (λ x. x ++ acc) (sym (spell_last k n [] l))
  | inr l ↦ spell_next k n acc l ∙ spell-append k (n / 16) (last_glyph n ∷ acc)
      ∙ sym (append_assoc (spell k (n / 16) []) (last_glyph n ∷ []) acc)
      ∙ ap (λ x. x ++ acc) (sym (spell_next k n [] l ∙ spell-append k (n / 16) (last_glyph n ∷ [])))
]

-- the digit limit does not matter once it is large enough
spell_enough : (j k n : ℕ) (acc : List ℕ) → n < 16 ^ suc j → n < 16 ^ suc k → spell (suc j) n acc ≡ spell (suc k) n acc
spell_enough zero k n acc p q = spell_last zero n acc (omega arith) ∙ sym (spell_last k n acc (omega arith))
spell_enough (suc j) zero n acc p q = spell_last (suc j) n acc (omega arith) ∙ sym (spell_last zero n acc (omega arith))
spell_enough (suc j) (suc k) n acc p q = elim (order n 16) [
  | inl l ↦ spell_last (suc j) n acc l ∙ sym (spell_last (suc k) n acc l)
  | inr l ↦ spell_next (suc j) n acc l ∙ spell_enough j k (n / 16) (last_glyph n ∷ acc) (omega arith) (omega arith)
      ∙ sym (spell_next (suc k) n acc l)
]

spell-nil : (n : ℕ) → spell 64 n [] ≡ digits 16 false n
unfolding digits
spell-nil n = refl

pub hex_digit : (n : ℕ) → n < 16 → digits 16 false n ≡ digit_glyph false n ∷ []
hex_digit n small = hex_one_digit false n small

pub hex_step : (n : ℕ) → 16 ≤ n → n < 2 ^ 64 → digits 16 false n ≡ digits 16 false (n / 16) ++ digit_glyph false (n % 16) ∷ []
hex_step n large small =
    sym (spell-nil n) ∙ spell_next 63 n [] large ∙ spell_enough 62 63 (n / 16) (last_glyph n ∷ []) (omega arith) (omega arith)
    ∙ spell-append 64 (n / 16) (last_glyph n ∷ []) ∙ ap (λ x. x ++ last_glyph n ∷ []) (spell-nil (n / 16))

pub length_hex : (k n : ℕ) → 0 < k → n < 16 ^ k → n < 2 ^ 64 → length (digits 16 false n) ≤ k
length_hex zero n some fits small = absurd (omega arith)
length_hex (suc zero) n some fits small = let e = hex_digit n (omega arith) in omega (arith, ap length e)
length_hex (suc (suc k)) n some fits small = elim (order n 16) [
  | inl l ↦ let e = hex_digit n l in omega (arith, ap length e)
  | inr l ↦ let e =
      hex_step n l small in omega (
        arith,
        ap length e,
        length-append (digits 16 false (n / 16)) (last_glyph n ∷ []),
        length_hex (suc k) (n / 16) (omega arith)
            (omega arith) (omega arith),
      )
]

pub length_hex_16 : (n : ℕ) → n < 2 ^ 64 → length (digits 16 false n) ≤ 16
length_hex_16 n fits = length_hex 16 n (omega arith) (omega arith) fits

-- so many digits as were asked for
pub length_of_hex : (k n : ℕ) → length (hex_of k n) ≡ k
unfolding hex_of
length_of_hex zero n = refl
length_of_hex (suc k) n = omega (arith, length-append (hex_of k (n / 16)) (last_glyph n ∷ []), length_of_hex k (n / 16))

-- the last of more digits are those of the number
pub drop_hex : (k w n : ℕ) → drop k (hex_of (k + w) n) ≡ hex_of w n
unfolding hex_of
drop_hex k zero n = ap (λ j. drop k (hex_of j n)) (none_more k) ∙ drop_of_length-le (hex_of k n) (omega (arith, length_of_hex k n))
  where
    none_more : (k : ℕ) → k + 0 ≡ k
    none_more k = omega arith
drop_hex k (suc w) n =
    ap (λ j. drop k (hex_of j n)) (one_later k w)
    ∙ drop-append-le k (hex_of (k + w) (n / 16)) (last_glyph n ∷ []) (omega (arith, length_of_hex (k + w) (n / 16)))
    ∙ ap (λ x. x ++ last_glyph n ∷ []) (drop_hex k w (n / 16))
  where
    one_later : (k w : ℕ) → k + suc w ≡ suc (k + w)
    one_later k w = omega arith

pub last_digits : (w n : ℕ) (ds : List ℕ) → w ≤ 17 → ds ≡ hex_of 17 n → take (17 - (17 - w)) (drop (17 - w) ds) ≡ hex_of w n
last_digits w n ds few are =
    let whole : (17 - w) + w ≡ 17 = omega arith in
    ap (λ xs. take (17 - (17 - w)) (drop (17 - w) xs)) are
    ∙ ap (take (17 - (17 - w))) (subst (λ j. drop (17 - w) (hex_of j n) ≡ hex_of w n) whole (drop_hex (17 - w) w n))
    ∙ take_all (17 - (17 - w)) (hex_of w n) (omega (arith, length_of_hex w n))

-- and each an ASCII byte
glyph_is_ascii : (d : ℕ) → d < 16 → digit_glyph false d < 128
glyph_is_ascii d small = grind (arith, nat_tests)

ascii_one : (b : ℕ) → b < 128 → IsAscii (b ∷ [])
ascii_one b small zero = small
ascii_one b small (suc i) = omega arith

ascii_hex : (k n : ℕ) → IsAscii (hex_of k n)
unfolding hex_of
ascii_hex zero n = λ i. omega arith
ascii_hex (suc k) n =
    let last = ascii_one (last_glyph n) (glyph_is_ascii (n % 16) (omega arith)) in
    IsAscii-append (hex_of k (n / 16)) (last_glyph n ∷ []) (ascii_hex k (n / 16)) last

pub hex_is_utf8 : (k n : ℕ) → IsUtf8 (hex_of k n)
hex_is_utf8 k n = IsUtf8-from_ascii (hex_of k n) (ascii_hex k n)

-- how many digits a number has without leading zeros
pub hex_one : (n : ℕ) → n < 16 → hex_of 1 n ≡ digits 16 false n
unfolding hex_of
hex_one n small = ap (λ d. digit_glyph false d ∷ []) (mod_small n small) ∙ sym (hex_digit n small)
  where
    mod_small : (n : ℕ) → n < 16 → n % 16 ≡ n
    mod_small n small = omega arith

pub hex_more : (k n : ℕ) → 16 ≤ n → n < 2 ^ 64 → hex_of k (n / 16) ≡ digits 16 false (n / 16) → hex_of (k + 1) n ≡ digits 16 false n
unfolding hex_of
hex_more k n large small e =
    ap (λ j. hex_of j n) (one_more k) ∙ ap (λ x. x ++ last_glyph n ∷ []) e ∙ sym (hex_step n large small)
  where
    one_more : (k : ℕ) → k + 1 ≡ suc k
    one_more k = omega arith
