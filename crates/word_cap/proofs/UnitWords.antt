-- A word whose base and top are the units of its own mantissas is well-formed.
use Rattle.std.proofs.Common.{◌≡◌, ℕ, ◌+◌, ◌-◌, ◌*◌, ◌/◌, ◌%◌, ◌^◌, ◌<◌, ◌≤◌, Bool, true, false, refl, sym, ap, ◌∙◌, inl, inr, arith}
use Rattle.std.proofs.Math.Nat.{mul-div_left}
use Rattle.std.proofs.Math.Pow.{pow_mono}
use Rattle.std.proofs.lemmas.Nat.{mul-le, pow-add, pow_pos}
use Rattle.std.proofs.lemmas.Bool.{cases_Bool, le-leb, lt-leb}
use Rattle.base.specs.Bits.{field, bit}
use Rattle.cap_format.specs.Word.{address_of, perms_of, flag_of, otype_of, ie_of, t_field_of, b_field_of}
use Rattle.cap_bounds.specs.Mantissa.{exponent_of, base_mantissa, low_top_mantissa, top_mantissa, length_mantissa, without_exponent}
use Rattle.cap_bounds.specs.MantissaLaws.{exponent_of-high, base_mantissa-below, low_top_mantissa-below, length_mantissa-range}
use Rattle.cap_bounds.specs.Window.{base_of_word, top_of_word}
use Rattle.cap_bounds.specs.Record.{IsWellFormed, IsWordWellFormed, has_exponent, exponent_for, alignment_for, is_in_window, encoded_b}
use Rattle.cap_bounds.specs.Record.{encoded_t, encoded_at, encoded, decoded}
use Rattle.cap_bounds.specs.ExponentLaws.{exponent_for-is, exponent_for-short}
use Rattle.cap_bounds.specs.WordLaws.{joined}
use Rattle.cap_bounds.specs.RemainderLaws.{mod-is}
use Rattle.cap_bounds.specs.BaseLaws.{is_in_window-own}
use Rattle.word_cap.proofs.Lengths.{top_mantissa-sum}
use Rattle.word_cap.proofs.JoinedFields.{fields-joined}

-- The base is p units of 2 ^ E, of which B is the low 14 bits, and the top L units more, in the address space. An internal exponent
-- stands in the word as it is, so that it was not read as 52.
pub record IsInUnits (word p : ℕ) : Type 0 where
  pub base : base_of_word word ≡ p * 2 ^ exponent_of word
  pub top : top_of_word word ≡ (p + length_mantissa word) * 2 ^ exponent_of word
  pub mantissa : p % 16384 ≡ base_mantissa word
  pub written : ie_of word ≡ true → t_field_of word % 8 * 8 + b_field_of word % 8 ≡ exponent_of word
  pub base_fits : base_of_word word < 2 ^ 64
  pub in_space : top_of_word word ≤ 2 ^ 64

-- ---- the exponent

pub exponent_of-clear : (word : ℕ) → ie_of word ≡ false → exponent_of word ≡ 0
unfolding exponent_of
exponent_of-clear word clear = rw clear refl

-- a length of L units takes just that exponent, internal or not
exponent_for-internal : (e l : ℕ) → e ≤ 52 → 4096 ≤ l → l < 8192 → exponent_for (l * 2 ^ e) ≡ e
exponent_for-internal e l most long short =
    let least : 4096 * 2 ^ e ≤ l * 2 ^ e = mul-le 4096 (2 ^ e) l (2 ^ e) long (omega arith) in
    let greatest : l * 2 ^ e ≤ 8191 * 2 ^ e = mul-le l (2 ^ e) 8191 (2 ^ e) (omega arith) (omega arith) in
    exponent_for-is (l * 2 ^ e) e most
    (λ j below. let le : j + 13 ≤ e + 12 = omega arith in omega (arith, least, pow_mono le, pow-add 2 e 12))
    (λ _. omega (arith, greatest, pow-add 2 e 13, pow_pos e))

exponent_for-units : (word : ℕ) → exponent_for (length_mantissa word * 2 ^ exponent_of word) ≡ exponent_of word
exponent_for-units word = elim (cases_Bool (ie_of word)) [
  | inl internal ↦
      let range = (length_mantissa-range word).1 internal in
      exponent_for-internal (exponent_of word) (length_mantissa word) (exponent_of-high word) range.0 range.1
  | inr clear ↦
      let range = (length_mantissa-range word).0 clear in
      rw (exponent_of-clear word clear) (exponent_for-short (length_mantissa word * 1) (omega arith))
]

has_exponent-units : (word : ℕ) → has_exponent (length_mantissa word * 2 ^ exponent_of word) ≡ ie_of word
unfolding has_exponent
has_exponent-units word = elim (cases_Bool (ie_of word)) [
  | inl internal ↦
      let range = (length_mantissa-range word).1 internal in
      let least : 4096 * 2 ^ exponent_of word ≤ length_mantissa word * 2 ^ exponent_of word =
      mul-le 4096 (2 ^ exponent_of word) (length_mantissa word) (2 ^ exponent_of word) range.0 (omega arith) in
      le-leb 4096 (length_mantissa word * 2 ^ exponent_of word) (omega (arith, least, pow_pos (exponent_of word))) ∙ sym internal
  | inr clear ↦
      let range = (length_mantissa-range word).0 clear in
      rw (exponent_of-clear word clear) (lt-leb 4096 (length_mantissa word * 1) (omega arith) ∙ sym clear)
]

-- ---- the mantissas

low_top_mantissa-sum : (word : ℕ) → low_top_mantissa word ≡ (base_mantissa word + length_mantissa word) % 4096
unfolding top_mantissa
low_top_mantissa-sum word =
    let sum = top_mantissa-sum word in
    let small = low_top_mantissa-below word in
    omega arith

encoded_b-by : (ie : Bool) (p e t b : ℕ) → p % 16384 ≡ without_exponent ie b → (ie ≡ true → t % 8 * 8 + b % 8 ≡ e)
    → encoded_b (p * 2 ^ e) e ie ≡ b
encoded_b-by true p e t b is written =
    let stands = written refl in
    rw (mul-div_left p (pow_pos e)) (omega arith)
encoded_b-by false p e t b is written = rw (mul-div_left p (pow_pos e)) is

encoded_t-by : (ie : Bool) (q e t b : ℕ) → q % 4096 ≡ without_exponent ie t → (ie ≡ true → t % 8 * 8 + b % 8 ≡ e)
    → encoded_t (q * 2 ^ e) e ie ≡ t
encoded_t-by true q e t b is written =
    let stands = written refl in
    rw (mul-div_left q (pow_pos e)) (omega arith)
encoded_t-by false q e t b is written = rw (mul-div_left q (pow_pos e)) is

-- ---- the alignment

aligned-internal : (n e : ℕ) → n % 8 ≡ 0 → n * 2 ^ e % 2 ^ (e + 3) ≡ 0
aligned-internal n e eighths =
    let whole : n ≡ n / 8 * 8 = omega arith in
    let unit : n * 2 ^ e ≡ n / 8 * 2 ^ (e + 3) = omega (arith, ap (λ n. n * 2 ^ e) whole, ap (λ g. n / 8 * g) (pow-add 2 e 3)) in
    mod-is (n * 2 ^ e) 0 0 (n / 8) (2 ^ (e + 3)) (pow_pos (e + 3)) (omega (arith, unit))

aligned : (ie : Bool) (n e length : ℕ) → has_exponent length ≡ ie → exponent_for length ≡ e → (ie ≡ true → n % 8 ≡ 0)
    → n * 2 ^ e % alignment_for length ≡ 0
unfolding alignment_for
aligned true n e length internal exponent eighths = rw (internal, exponent) (aligned-internal n e (eighths refl))
aligned false n e length clear exponent eighths = rw clear (omega arith)

base_eighths : (ie : Bool) (p b : ℕ) → p % 16384 ≡ without_exponent ie b → ie ≡ true → p % 8 ≡ 0
base_eighths true p b is internal = omega arith
base_eighths false p b is internal = cc

top_eighths : (ie : Bool) (q t : ℕ) → q % 4096 ≡ without_exponent ie t → ie ≡ true → q % 8 ≡ 0
top_eighths true q t is internal = omega arith
top_eighths false q t is internal = cc

-- ---- the word

module _ (word p : ℕ) (fits : word < 2 ^ 128) (clear : field word 110 2 ≡ 0) (is : IsInUnits word p) where
  length : top_of_word word - base_of_word word ≡ length_mantissa word * 2 ^ exponent_of word
  length = rw (is.base, is.top) (omega arith)

  exponent : exponent_for (top_of_word word - base_of_word word) ≡ exponent_of word
  exponent = rw length (exponent_for-units word)

  internal : has_exponent (top_of_word word - base_of_word word) ≡ ie_of word
  internal = rw length (has_exponent-units word)

  base_field : p % 16384 ≡ without_exponent (ie_of word) (b_field_of word)
  unfolding base_mantissa
  base_field = is.mantissa

  top_field : (p + length_mantissa word) % 4096 ≡ without_exponent (ie_of word) (t_field_of word)
  unfolding low_top_mantissa
  top_field =
      let sum = low_top_mantissa-sum word in
      let mantissa = is.mantissa in
      omega arith

  b_field : encoded_b (base_of_word word) (exponent_of word) (ie_of word) ≡ b_field_of word
  b_field =
      rw is.base (encoded_b-by (ie_of word) p (exponent_of word) (t_field_of word) (b_field_of word) base_field is.written)

  t_field : encoded_t (top_of_word word) (exponent_of word) (ie_of word) ≡ t_field_of word
  t_field =
      rw is.top
      (encoded_t-by (ie_of word) (p + length_mantissa word) (exponent_of word) (t_field_of word) (b_field_of word) top_field is.written)

  ordered : base_of_word word ≤ top_of_word word
  ordered = rw (is.base, is.top) (omega arith)

  base_aligned : base_of_word word % alignment_for (top_of_word word - base_of_word word) ≡ 0
  base_aligned =
      ap (λ n. n % alignment_for (top_of_word word - base_of_word word)) is.base
      ∙ aligned (ie_of word) p (exponent_of word) (top_of_word word - base_of_word word) internal exponent
      (base_eighths (ie_of word) p (b_field_of word) base_field)

  top_aligned : top_of_word word % alignment_for (top_of_word word - base_of_word word) ≡ 0
  top_aligned =
      ap (λ n. n % alignment_for (top_of_word word - base_of_word word)) is.top
      ∙ aligned (ie_of word) (p + length_mantissa word) (exponent_of word) (top_of_word word - base_of_word word) internal exponent
      (top_eighths (ie_of word) (p + length_mantissa word) (t_field_of word) top_field)

  in_window : is_in_window (exponent_of word) (base_of_word word) (address_of word) ≡ true
  unfolding base_of_word
  in_window = is_in_window-own (exponent_of word) (base_mantissa word) (address_of word) (base_mantissa-below word)

  decodes : IsWellFormed (decoded word)
  unfolding decoded
  decodes = record {
    ordered = ordered;
    in_space = is.in_space;
    base_fits = is.base_fits;
    address_fits = omega arith;
    perms_fit = omega arith;
    otype_fits = omega arith;
    base_aligned = base_aligned;
    top_aligned = top_aligned;
    in_window = rw exponent in_window;
  }

  joined_again : perms_of word * 2 ^ 112 + bit (flag_of word) * 2 ^ 109 + otype_of word * 2 ^ 91 + bit (ie_of word) * 2 ^ 90
      + t_field_of word * 2 ^ 78 + b_field_of word * 2 ^ 64 + address_of word ≡ word
  unfolding joined
  joined_again = fields-joined word fits clear

  canonical : encoded (decoded word) ≡ word
  unfolding decoded encoded encoded_at
  canonical = rw (exponent, internal, b_field, t_field) joined_again

  pub IsWordWellFormed-units : IsWordWellFormed word
  IsWordWellFormed-units = record { decodes = decodes; canonical = canonical }
