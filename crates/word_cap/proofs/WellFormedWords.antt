-- Words that are well-formed, told by their mantissas.
use Rattle.std.proofs.Common.{◌≡◌, ℕ, ◌+◌, ◌-◌, ◌*◌, ◌/◌, ◌%◌, ◌^◌, ◌<◌, ◌≤◌, true, leb, ◌↔◌, IsTrue, refl, sym, ap, ◌∙◌, inl, inr}
use Rattle.std.proofs.Common.{min, arith}
use Rattle.std.proofs.Math.Nat.{mod-eq_of_lt, mod-lt}
use Rattle.std.proofs.lemmas.Bool.{cases_eq, cases_Bool, le-leb, leb-true}
use Rattle.base.specs.Bits.{field}
use Rattle.cap_format.specs.Word.{address_of, ie_of, t_field_of, b_field_of}
use Rattle.cap_bounds.specs.Mantissa.{exponent_of, base_mantissa, length_mantissa}
use Rattle.cap_bounds.specs.MantissaLaws.{exponent_of-high, base_mantissa-below, length_mantissa-range}
use Rattle.cap_bounds.specs.Window.{base_of_word, top_of_word}
use Rattle.cap_bounds.specs.BaseLaws.{decoded_base-below, decoded_base-high, decoded_top-low, decoded_top-high}
use Rattle.cap_bounds.specs.Record.{IsWordWellFormed, exponent_for, encoded_b, encoded_t, decoded}
use Rattle.word_cap.proofs.Windows.{window_number, window_number-base}
use Rattle.word_cap.proofs.SameWindow.{units_of_base}
use Rattle.word_cap.proofs.JoinedFields.{canonical_fields}
use Rattle.word_cap.proofs.UnitWords.{IsInUnits, IsWordWellFormed-units, exponent_of-clear}

-- ---- up to an exponent of 50

written-narrow : (word : ℕ) → exponent_of word ≤ 50 → ie_of word ≡ true → t_field_of word % 8 * 8 + b_field_of word % 8 ≡ exponent_of word
unfolding exponent_of
written-narrow word low internal = let low = rw internal at low in rw internal (omega arith)

module _ (word : ℕ) (low : exponent_of word ≤ 50) where
  -- how many units of 2 ^ e the base is
  abbrev units : ℕ
  units =
      (window_number (address_of word / 2 ^ exponent_of word) (base_mantissa word) * 16384 + base_mantissa word)
      % 2 ^ (50 - exponent_of word + 14)

  base-narrow : base_of_word word ≡ units * 2 ^ exponent_of word
  unfolding base_of_word
  base-narrow =
      let own_fits : address_of word < 2 ^ 64 = omega arith in
      let most : exponent_of word ≤ 52 = omega arith in
      sym ((units_of_base (window_number (address_of word / 2 ^ exponent_of word) (base_mantissa word)) (exponent_of word)
      (base_mantissa word) low (base_mantissa-below word)).0
      ∙ window_number-base (exponent_of word) (base_mantissa word) (address_of word) most (base_mantissa-below word) own_fits)

  top-narrow : top_of_word word ≡ (units + length_mantissa word) * 2 ^ exponent_of word
  unfolding top_of_word base_of_word
  top-narrow =
      decoded_top-low (exponent_of word) (base_mantissa word) (length_mantissa word) (address_of word) low
      ∙ ap (λ n. n + length_mantissa word * 2 ^ exponent_of word) base-narrow ∙ omega arith

  base_fits : base_of_word word < 2 ^ 64
  unfolding base_of_word
  base_fits = decoded_base-below (exponent_of word) (base_mantissa word) (address_of word)

  is_in_units-narrow : top_of_word word ≤ 2 ^ 64 → IsInUnits word units
  is_in_units-narrow in_space = record {
    base = base-narrow;
    top = top-narrow;
    mantissa =
        (units_of_base (window_number (address_of word / 2 ^ exponent_of word) (base_mantissa word)) (exponent_of word)
        (base_mantissa word) low (base_mantissa-below word)).1;
    written = written-narrow word low;
    base_fits = base_fits;
    in_space = in_space;
  }

  -- a word with clear reserved bits is well-formed exactly where its top is in the address space
  pub well_formed-narrow : word < 2 ^ 128 → field word 110 2 ≡ 0 → IsTrue (leb (top_of_word word) (2 ^ 64)) ↔ IsWordWellFormed word
  unfolding decoded
  well_formed-narrow fits clear = (
    λ t. IsWordWellFormed-units word units fits clear (is_in_units-narrow (leb-true (top_of_word word) (2 ^ 64) t)),
    λ well. le-leb (top_of_word word) (2 ^ 64) well.decodes.in_space,
  )

-- ---- exponents of 51 and 52

-- mantissas that end in the address space are its bounds
record AreWideBounds (e b l : ℕ) : Type 0 where
  pub base : b * 2 ^ e % 2 ^ 64 ≡ b * 2 ^ e
  pub top : (b + l) * 2 ^ e % 2 ^ 65 ≡ (b + l) * 2 ^ e
  pub in_space : (b + l) * 2 ^ e ≤ 2 ^ 64

wide_bounds : (e b l : ℕ) → 50 < e → e ≤ 52 → 4096 ≤ l → (b + l) * 2 ^ (e - 51) ≤ 8192 → AreWideBounds e b l
wide_bounds e b l above most long ends = elim (cases_eq e 51) [
  | inl first ↦
      let ends : b + l ≤ 8192 = omega (arith, rw first at ends) in
      rw first (record { base = omega arith; top = omega arith; in_space = omega arith })
  | inr other ↦
      let last : e ≡ 52 = omega arith in
      let ends : (b + l) * 2 ≤ 8192 = omega (arith, rw last at ends) in
      rw last (record { base = omega arith; top = omega arith; in_space = omega arith })
]

-- and only those are encoded by themselves
wide_ends : (e b l base top : ℕ) → 50 < e → e ≤ 52 → b < 16384 → 4096 ≤ l → l < 8192 → base ≡ b * 2 ^ e % 2 ^ 64
    → top ≡ (b + l) * 2 ^ e % 2 ^ 65 → base ≤ top → top ≤ 2 ^ 64 → b ≡ base / 2 ^ e % 2 ^ 14 / 8 * 8 → (b + l) * 2 ^ (e - 51) ≤ 8192
wide_ends e b l base top above most mantissa long short from to ordered in_space again = elim (cases_eq e 51) [
  | inl first ↦
      let from : base ≡ b * 2 ^ 51 % 2 ^ 64 = rw first at from in
      let to : top ≡ (b + l) * 2 ^ 51 % 2 ^ 65 = rw first at to in
      let again : b ≡ base / 2 ^ 51 % 2 ^ 14 / 8 * 8 = rw first at again in
      rw first (omega arith)
  | inr other ↦
      let last : e ≡ 52 = omega arith in
      let from : base ≡ b * 2 ^ 52 % 2 ^ 64 = rw last at from in
      let to : top ≡ (b + l) * 2 ^ 52 % 2 ^ 65 = rw last at to in
      let again : b ≡ base / 2 ^ 52 % 2 ^ 14 / 8 * 8 = rw last at again in
      rw last (omega arith)
]

base_mantissa-internal : (word : ℕ) → ie_of word ≡ true → base_mantissa word ≡ b_field_of word / 8 * 8
unfolding base_mantissa
base_mantissa-internal word internal = rw internal refl

-- the fields of a record with an exponent say it
canonical_exponent : (word e : ℕ) → e ≤ 52 → ie_of word ≡ true → t_field_of word ≡ encoded_t (top_of_word word) e true
    → b_field_of word ≡ encoded_b (base_of_word word) e true
    → (t_field_of word % 8 * 8 + b_field_of word % 8 ≡ exponent_of word)
    × (b_field_of word / 8 ≡ base_of_word word / 2 ^ exponent_of word % 2 ^ 14 / 8)
unfolding exponent_of
canonical_exponent word e high internal t b =
    let written : t_field_of word % 8 * 8 + b_field_of word % 8 ≡ e = omega arith in
    let same : min (t_field_of word % 8 * 8 + b_field_of word % 8) 52 ≡ e = omega arith in
    rw (internal, same) (written, omega arith)

module _ (word : ℕ) (above : 50 < exponent_of word) where
  internal-wide : ie_of word ≡ true
  internal-wide = elim (cases_Bool (ie_of word)) [
    | inl internal ↦ internal
    | inr clear ↦ absurd (omega (arith, exponent_of-clear word clear))
  ]

  length-wide : (4096 ≤ length_mantissa word) × (length_mantissa word < 8192)
  length-wide = (length_mantissa-range word).1 internal-wide

  base_of_word-wide : base_of_word word ≡ base_mantissa word * 2 ^ exponent_of word % 2 ^ 64
  unfolding base_of_word
  base_of_word-wide = decoded_base-high (exponent_of word) (base_mantissa word) (address_of word) above

  top_of_word-wide : top_of_word word ≡ (base_mantissa word + length_mantissa word) * 2 ^ exponent_of word % 2 ^ 65
  unfolding top_of_word
  top_of_word-wide = decoded_top-high (exponent_of word) (base_mantissa word) (length_mantissa word) (address_of word) above

  written-wide : t_field_of word % 8 * 8 + b_field_of word % 8 ≤ 52 → t_field_of word % 8 * 8 + b_field_of word % 8 ≡ exponent_of word
  unfolding exponent_of
  written-wide few = rw internal-wide (omega arith)

  is_in_units-wide : t_field_of word % 8 * 8 + b_field_of word % 8 ≤ 52
      → (base_mantissa word + length_mantissa word) * 2 ^ (exponent_of word - 51) ≤ 8192 → IsInUnits word (base_mantissa word)
  is_in_units-wide few ends =
      let b : ℕ = base_mantissa word in
      let bounds = wide_bounds (exponent_of word) b (length_mantissa word) above (exponent_of-high word) length-wide.0 ends in
      record {
        base = base_of_word-wide ∙ bounds.base;
        top = top_of_word-wide ∙ bounds.top;
        mantissa = mod-eq_of_lt (base_mantissa-below word);
        written = λ _. written-wide few;
        base_fits = rw base_of_word-wide (mod-lt (base_mantissa word * 2 ^ exponent_of word) (omega arith));
        in_space = rw (top_of_word-wide, bounds.top) bounds.in_space;
      }

  -- the six bits of a well-formed word are the exponent that its length takes
  exponent-canonical : IsWordWellFormed word
      → (t_field_of word % 8 * 8 + b_field_of word % 8 ≡ exponent_of word)
      × (b_field_of word / 8 ≡ base_of_word word / 2 ^ exponent_of word % 2 ^ 14 / 8)
  exponent-canonical well =
      let e : ℕ = exponent_for (top_of_word word - base_of_word word) in
      let fields = canonical_fields word well in
      let internal = sym fields.internal ∙ internal-wide in
      canonical_exponent word e fields.exponent_high internal-wide (rw internal at fields.t_field) (rw internal at fields.b_field)

  pub written-well_formed : IsWordWellFormed word → t_field_of word % 8 * 8 + b_field_of word % 8 ≤ 52
  written-well_formed well = rw (exponent-canonical well).0 (exponent_of-high word)

  ends-well_formed : IsWordWellFormed word → (base_mantissa word + length_mantissa word) * 2 ^ (exponent_of word - 51) ≤ 8192
  unfolding decoded
  ends-well_formed well =
      wide_ends (exponent_of word) (base_mantissa word) (length_mantissa word) (base_of_word word) (top_of_word word) above
      (exponent_of-high word) (base_mantissa-below word) length-wide.0 length-wide.1 base_of_word-wide top_of_word-wide
      well.decodes.ordered well.decodes.in_space
      (base_mantissa-internal word internal-wide ∙ ap (λ n. n * 8) (exponent-canonical well).1)

  pub well_formed-wide : word < 2 ^ 128 → field word 110 2 ≡ 0 → t_field_of word % 8 * 8 + b_field_of word % 8 ≤ 52
      → IsTrue (leb ((base_mantissa word + length_mantissa word) * 2 ^ (exponent_of word - 51)) 8192) ↔ IsWordWellFormed word
  well_formed-wide fits clear few = (
    λ t. IsWordWellFormed-units word (base_mantissa word) fits clear
        (is_in_units-wide few (leb-true ((base_mantissa word + length_mantissa word) * 2 ^ (exponent_of word - 51)) 8192 t)),
    λ well. le-leb ((base_mantissa word + length_mantissa word) * 2 ^ (exponent_of word - 51)) 8192 (ends-well_formed well),
  )
