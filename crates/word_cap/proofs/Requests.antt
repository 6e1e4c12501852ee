-- What setting the bounds of a word and its tag gives.
use Rattle.std.proofs.Common.{◌≡◌, ℕ, ◌+◌, ◌-◌, ◌%◌, ◌^◌, ◌<◌, ◌≤◌, Bool, true, false, leb, eqb, not, ◌&&◌, refl, sym, ap, ◌∙◌, inl, inr}
use Rattle.std.proofs.Common.{arith}
use Rattle.std.proofs.Math.Nat.{mod-eq_of_lt}
use Rattle.std.proofs.lemmas.Bool.{leb-true, le-leb, and_parts, cases_lt, cases_Bool}
use Rattle.cap_format.specs.Word.{address_of, perms_of, flag_of, otype_of}
use Rattle.cap_bounds.specs.Window.{base_of_word, top_of_word}
use Rattle.cap_bounds.specs.Record.{IsWordWellFormed, has_exponent, encoded_b, encoded_t, encoded_at, encoded, decoded}
use Rattle.cap_bounds.specs.CapValue.{CapValue, Cap, Data, IsSound, value_of, value_address, is_sealed}
use Rattle.cap_bounds.specs.Rounding.{rounding_exponent, rounded_base, rounded_top}
use Rattle.cap_bounds.specs.SetBounds.{request_top, bounded, may_bound, with_bounds}
use Rattle.cap_bounds.specs.RecordLaws.{decoded-encoded, encoded-well_formed}
use Rattle.cap_bounds.specs.RoundingLaws.{rounded_base-low, rounded_base-short, rounded_top-high, rounded_top-short, exponent_for-rounded}
use Rattle.cap_bounds.specs.RoundingLaws.{rounded-inside_record}
use Rattle.cap_bounds.specs.WordLaws.{joined}
use Rattle.cap_bounds.specs.SetBoundsLaws.{IsWellFormed-bounded, with_bounds-set, with_bounds-refused}
use Rattle.word_cap.specs.ValueLaws.{value_address-value_of, value_perms-value_of, value_flag-value_of, value_otype-value_of}

-- ---- whether the bounds may be set

pub may_bound-data : (word length : ℕ) → may_bound (value_of word false) length ≡ false
unfolding may_bound
may_bound-data word length = refl

pub may_bound-sealed : (word length : ℕ) → eqb (otype_of word) 0x3_ffff ≡ false → may_bound (value_of word true) length ≡ false
unfolding may_bound decoded
may_bound-sealed word length sealed = rw sealed refl

pub may_bound-unsealed : (word length : ℕ) → eqb (otype_of word) 0x3_ffff ≡ true
    → may_bound (value_of word true) length
    ≡ (leb (base_of_word word) (address_of word) && leb (address_of word + length) (top_of_word word))
unfolding may_bound decoded
may_bound-unsealed word length unsealed = rw unsealed refl

-- ---- the word of the result

-- the rounded bounds of a request that a capability's bounds hold end in the address space
rounded_top-held : (v : CapValue) (length : ℕ) → IsSound v → may_bound v length ≡ true
    → rounded_top (value_address v) (request_top v length) ≤ 2 ^ 64
unfolding may_bound
rounded_top-held (Cap r) length well may =
    let unsealed : (not (is_sealed (Cap r)) && (leb r.base r.address && leb (r.address + length) r.top)) ≡ true = may in
    let low : Bool = leb r.base r.address in
    let high : Bool = leb (r.address + length) r.top in
    let held = and_parts low high (and_parts (not (is_sealed (Cap r))) (low && high) unsealed).1 in
    let ordered : r.address ≤ r.address + length = omega arith in
    let inside =
    rounded-inside_record r r.address (r.address + length) well ordered (leb-true r.base r.address held.0)
    (leb-true (r.address + length) r.top held.1) in
    let in_space = well.in_space in
    omega (arith, inside.1)
rounded_top-held (Data n) length sound may = cc

-- the rounded length has an exponent where the request has one
has_exponent-request : (base top : ℕ) → has_exponent (rounded_top base top - rounded_base base top) ≡ has_exponent (top - base)
unfolding has_exponent
has_exponent-request base top = elim (cases_lt (top - base) 4096) [
  | inl short ↦ rw (rounded_base-short base top short, rounded_top-short base top short) refl
  | inr long ↦
      let longer : 4096 ≤ rounded_top base top - rounded_base base top =
      omega (arith, rounded_base-low base top, rounded_top-high base top) in
      le-leb 4096 _ longer ∙ sym (le-leb 4096 (top - base) long)
]

-- the word of rounded bounds is the capability's canonical one
encoded-bounded : (v : CapValue) (length : ℕ) → IsSound v → length < 2 ^ 64 → may_bound v length ≡ true
    → encoded_at (rounding_exponent (value_address v) (request_top v length)) (has_exponent length) (bounded v length)
    ≡ encoded (bounded v length)
unfolding bounded encoded
encoded-bounded v length sound short may =
    let a : ℕ = value_address v in
    let top : ℕ = request_top v length in
    let held = rounded_top-held v length sound may in
    let fits : rounded_top (value_address v) (request_top v length) < 2 ^ 65 = omega arith in
    let same : request_top v length - value_address v ≡ length = omega arith in
    let small : request_top v length - value_address v ≤ 2 ^ 64 = omega arith in
    rw (mod-eq_of_lt fits, has_exponent-request a top, exponent_for-rounded a top (omega arith) small, same) refl

-- the word with the rounded bounds as they stand in it is that word
pub joined-bounded : (word length t b : ℕ) (tag ie : Bool) → ie ≡ has_exponent length
    → t ≡ encoded_t (rounded_top (address_of word) (address_of word + length) % 2 ^ 65)
    (rounding_exponent (address_of word) (address_of word + length)) (has_exponent length)
    → b ≡ encoded_b (rounded_base (address_of word) (address_of word + length))
    (rounding_exponent (address_of word) (address_of word + length)) (has_exponent length)
    → joined (perms_of word) (flag_of word) (otype_of word) ie t b (address_of word)
    ≡ encoded_at (rounding_exponent (value_address (value_of word tag)) (request_top (value_of word tag) length)) (has_exponent length)
    (bounded (value_of word tag) length)
unfolding bounded encoded_at joined
joined-bounded word length t b tag ie internal top base =
    rw (
      internal,
      top,
      base,
      value_address-value_of word tag,
      value_perms-value_of word tag,
      value_flag-value_of word tag,
      value_otype-value_of word tag,
    ) refl

-- a word whose bounds were set, and its tag, are the value with its bounds set
module _ (v : CapValue) (length word : ℕ) (sound : IsSound v) (short : length < 2 ^ 64)
    (is : word ≡ encoded_at (rounding_exponent (value_address v) (request_top v length)) (has_exponent length) (bounded v length)) where
  pub value_of-bounded : value_of word (may_bound v length) ≡ with_bounds v length
  value_of-bounded = elim (cases_Bool (may_bound v length)) [
    | inl may ↦
        ap (value_of word) may
        ∙ ap Cap (ap decoded (is ∙ encoded-bounded v length sound short may)
        ∙ decoded-encoded (bounded v length) (IsWellFormed-bounded v length sound short may))
        ∙ sym (with_bounds-set v length may)
    | inr refused ↦ ap (value_of word) refused ∙ ap Data is ∙ sym (with_bounds-refused v length refused)
  ]

  pub IsWordWellFormed-bounded : may_bound v length ≡ true → IsWordWellFormed word
  IsWordWellFormed-bounded may =
      rw (is ∙ encoded-bounded v length sound short may)
      ((encoded-well_formed (bounded v length) (IsWellFormed-bounded v length sound short may)).1)
