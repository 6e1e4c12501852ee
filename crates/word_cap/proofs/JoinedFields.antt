-- A word is its fields put together where its reserved bits are clear, as they are in every canonical word.
use Rattle.std.proofs.Common.{◌≡◌, ℕ, ◌-◌, ◌/◌, ◌%◌, ◌^◌, ◌<◌, ◌≤◌, Bool, true, false, eqb, refl, sym, inl, inr, arith}
use Rattle.std.proofs.lemmas.Bool.{cases_lt, eqb-true, eqb-false}
use Rattle.base.specs.Bits.{field, bit}
use Rattle.cap_format.specs.Word.{address_of, perms_of, flag_of, otype_of, ie_of, t_field_of, b_field_of}
use Rattle.cap_bounds.specs.Record.{Record, IsWellFormed, IsWordWellFormed, has_exponent, exponent_for, encoded_b, encoded_t, encoded_at}
use Rattle.cap_bounds.specs.Record.{encoded, decoded}
use Rattle.cap_bounds.specs.Window.{base_of_word, top_of_word}
use Rattle.cap_bounds.specs.EncodingLaws.{encodable, encoded_t-below, encoded_b-below}
use Rattle.cap_bounds.specs.WordLaws.{joined, bit-small, ie_of-joined, t_field_of-joined, b_field_of-joined}

-- a bit is what its test tells
bit-eqb_by : (n : ℕ) (b : Bool) → n < 2 → eqb n 1 ≡ b → bit b ≡ n
bit-eqb_by n true small is = sym (eqb-true n 1 is)
bit-eqb_by n false small is = elim (cases_lt n 1) [
  | inl none ↦ omega arith
  | inr some ↦ absurd (eqb-false n 1 is (omega arith))
]

bit-eqb : (n : ℕ) → bit (eqb (n % 2) 1) ≡ n % 2
bit-eqb n = bit-eqb_by (n % 2) (eqb (n % 2) 1) (omega arith) refl

-- a word with clear reserved bits is its fields put together
pub fields-joined : (word : ℕ) → word < 2 ^ 128 → field word 110 2 ≡ 0
    → joined (perms_of word) (flag_of word) (otype_of word) (ie_of word) (t_field_of word) (b_field_of word) (address_of word) ≡ word
unfolding joined
fields-joined word fits clear = rw (bit-eqb (word / 2 ^ 109), bit-eqb (word / 2 ^ 90)) (omega arith)

reserved-joined : (perms : ℕ) (flag : Bool) (otype : ℕ) (ie : Bool) (t b address : ℕ) → otype < 2 ^ 18 → t < 2 ^ 12 → b < 2 ^ 14
    → address < 2 ^ 64 → field (joined perms flag otype ie t b address) 110 2 ≡ 0
unfolding joined
reserved-joined perms flag otype ie t b address otype_fits t_fits b_fits fits = omega (arith, bit-small flag, bit-small ie)

reserved-encoded : (r : Record) → IsWellFormed r → field (encoded r) 110 2 ≡ 0
unfolding encoded encoded_at joined
reserved-encoded r well =
    let e : ℕ = exponent_for (r.top - r.base) in
    let ie : Bool = has_exponent (r.top - r.base) in
    reserved-joined r.perms r.flag r.otype ie (encoded_t r.top e ie) (encoded_b r.base e ie) r.address well.otype_fits
    (encoded_t-below r.top e ie (encodable r well).exponent_high) (encoded_b-below r.base e ie) well.address_fits

-- the reserved bits of a well-formed word are clear
pub reserved-well_formed : (word : ℕ) → IsWordWellFormed word → field word 110 2 ≡ 0
reserved-well_formed word well = rw well.canonical at (reserved-encoded (decoded word) well.decodes)

-- the mantissas' fields of a well-formed word are its record's
pub record AreCanonical (word e : ℕ) (ie : Bool) : Type 0 where
  pub exponent_high : e ≤ 52
  pub internal : ie_of word ≡ ie
  pub t_field : t_field_of word ≡ encoded_t (top_of_word word) e ie
  pub b_field : b_field_of word ≡ encoded_b (base_of_word word) e ie

canonical_fields-encoded : (r : Record) → IsWellFormed r → (e : ℕ) (ie : Bool) → e ≡ exponent_for (r.top - r.base)
    → ie ≡ has_exponent (r.top - r.base)
    → (e ≤ 52) × (ie_of (encoded r) ≡ ie) × (t_field_of (encoded r) ≡ encoded_t r.top e ie)
    × (b_field_of (encoded r) ≡ encoded_b r.base e ie)
unfolding encoded encoded_at joined
canonical_fields-encoded r well e ie exponent internal =
    let high : e ≤ 52 = rw exponent (encodable r well).exponent_high in
    let t_fits = encoded_t-below r.top e ie high in
    let b_fits = encoded_b-below r.base e ie in
    let t : ℕ = encoded_t r.top e ie in
    let b : ℕ = encoded_b r.base e ie in
    rw (sym exponent, sym internal) (
      high,
      ie_of-joined r.perms r.flag r.otype ie t b r.address well.otype_fits t_fits b_fits well.address_fits,
      t_field_of-joined r.perms r.flag r.otype ie t b r.address well.otype_fits t_fits b_fits well.address_fits,
      b_field_of-joined r.perms r.flag r.otype ie t b r.address well.otype_fits t_fits b_fits well.address_fits,
    )

pub canonical_fields : (word : ℕ) → IsWordWellFormed word
    → AreCanonical word (exponent_for (top_of_word word - base_of_word word)) (has_exponent (top_of_word word - base_of_word word))
unfolding decoded
canonical_fields word well =
    let fields =
    rw well.canonical at (canonical_fields-encoded (decoded word) well.decodes (exponent_for (top_of_word word - base_of_word word))
    (has_exponent (top_of_word word - base_of_word word)) refl refl) in
    record { exponent_high = fields.0; internal = fields.1; t_field = fields.2; b_field = fields.3 }
