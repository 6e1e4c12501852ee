-- A value with its bounds set has the rounded bounds of the request, tagged or not, and a capability's lie in the operand's.
use Rattle.std.proofs.Common.{◌≡◌, ℕ, ◌+◌, ◌-◌, ◌*◌, ◌/◌, ◌%◌, ◌^◌, ◌<◌, ◌≤◌, Bool, true, false, leb, cond, not, ◌&&◌, IsTrue, refl, sym}
use Rattle.std.proofs.Common.{ap, ◌∙◌, inl, inr, arith}
use Rattle.std.proofs.Math.Nat.{mod-eq_of_lt, mul-div_left, mod-mod_of_dvd, dvd-mul_left, div-div-eq-div-mul}
use Rattle.std.proofs.lemmas.Nat.{pow-add, pow_pos, field_of}
use Rattle.std.proofs.lemmas.Bool.{leb-true, lt-ltb, le-leb, lt-leb, and_parts, or_left, or_right, cases_lt, cases_Bool, cond-true}
use Rattle.std.proofs.lemmas.Bool.{cond-false}
use Rattle.cap_bounds.specs.Window.{decoded_base, base_of_word, top_of_word}
use Rattle.cap_bounds.specs.Record.{Record, IsWellFormed, record_with, has_exponent, is_in_window, encoded_b, encoded_t, encoded_at}
use Rattle.cap_bounds.specs.CapValue.{CapValue, Cap, Data, IsSound, is_tagged, is_sealed, value_address, value_perms, value_flag}
use Rattle.cap_bounds.specs.CapValue.{value_otype}
use Rattle.cap_bounds.specs.Rounding.{rounding_exponent, rounded_base, rounded_top}
use Rattle.cap_bounds.specs.SetBounds.{request_top, bounded, may_bound, with_bounds, HasRoundedBounds, LiesWithin}
use Rattle.cap_bounds.specs.PowerLaws.{window_fits}
use Rattle.cap_bounds.specs.RemainderLaws.{mod-is}
use Rattle.cap_bounds.specs.BaseLaws.{decoded_base-in_window}
use Rattle.cap_bounds.specs.EncodingLaws.{IsEncodable, HasMantissas, encodable-clear, encodable-internal, base_of_word-encoded}
use Rattle.cap_bounds.specs.EncodingLaws.{top_of_word-encoded, encoded_t-below, encoded_b-below}
use Rattle.cap_bounds.specs.WordLaws.{joined, address_of-joined, b_field_of-joined, t_field_of-joined, ie_of-joined}
use Rattle.cap_bounds.specs.RoundingLaws.{rounding_exponent-high, rounding_exponent-short, rounding_granule-short, rounding_granule-long}
use Rattle.cap_bounds.specs.RoundingLaws.{rounded_base-low, rounded_base-mod, rounded_base-short, rounded_top-high, rounded_top-mod}
use Rattle.cap_bounds.specs.RoundingLaws.{rounded_top-short, rounded_length-low, rounded_length-below, exponent_for-rounded}
use Rattle.cap_bounds.specs.RoundingLaws.{alignment_for-rounded, rounded-inside_record}

-- an address lies in the window of a base in the same step
is_in_window-same_step : (e base address : ℕ) → address / 2 ^ (e + 11) ≡ base / 2 ^ (e + 11) → is_in_window e base address ≡ true
unfolding is_in_window
is_in_window-same_step e base address same = elim (cases_lt e 50) [
  | inl below ↦
      let s : ℕ = 2 ^ (e + 11) in
      let positive : 0 < s = pow_pos (e + 11) in
      let room : 8 * s ≤ 2 ^ 64 = window_fits e (omega arith) in
      let place : (address + 2 ^ 64 + s - address / s * s) % 2 ^ 64 ≡ s + address % s =
      mod-is (address + 2 ^ 64 + s - address / s * s) (s + address % s) 0 1 (2 ^ 64) (omega arith) (omega arith) in
      let near : (address + 2 ^ 64 + s - base / s * s) % 2 ^ 64 < 8 * s = rw (← same, place) (omega arith) in
      or_right _ _ (lt-ltb _ _ near)
  | inr wide ↦ or_left _ _ (le-leb 50 e wide)
]

-- a range begins in the step of its rounded base
rounded_base-step : (base top : ℕ)
    → base / 2 ^ (rounding_exponent base top + 11) ≡ rounded_base base top / 2 ^ (rounding_exponent base top + 11)
unfolding rounded_base
rounded_base-step base top = elim (cases_lt (top - base) 4096) [
  | inl short ↦ rw (rounding_granule-short base top short) (ap (λ n. n / 2 ^ (rounding_exponent base top + 11)) (omega arith))
  | inr long ↦
      let e : ℕ = rounding_exponent base top in
      let g : ℕ = 2 ^ (e + 3) in
      let steps : 2 ^ (e + 11) ≡ g * 256 = omega (arith, pow-add 2 e 11, pow-add 2 e 3) in
      let same : base / g ≡ base / g * g / g = sym (mul-div_left (base / g) (pow_pos (e + 3))) in
      rw (rounding_granule-long base top long, steps)
      (sym (div-div-eq-div-mul base g 256) ∙ ap (λ n. n / 256) same ∙ div-div-eq-div-mul (base / g * g) g 256)
]

-- and so lies in its window
is_in_window-rounded : (base top : ℕ) → is_in_window (rounding_exponent base top) (rounded_base base top) base ≡ true
is_in_window-rounded base top =
    is_in_window-same_step (rounding_exponent base top) (rounded_base base top) base (rounded_base-step base top)

-- rounded bounds at most 2 ^ 64 have a word
IsWellFormed-rounded : (base top perms : ℕ) (flag : Bool) (otype : ℕ) → base < 2 ^ 64 → base ≤ top → top - base ≤ 2 ^ 64
    → rounded_top base top ≤ 2 ^ 64
    → perms < 2 ^ 16 → otype < 2 ^ 18 → IsWellFormed (record_with (rounded_base base top) (rounded_top base top) base perms flag otype)
IsWellFormed-rounded base top perms flag otype fits ordered small in_space perms_fit otype_fits = record {
  ordered = omega (arith, rounded_base-low base top, rounded_top-high base top);
  in_space = in_space;
  base_fits = omega (arith, rounded_base-low base top);
  address_fits = fits;
  perms_fit = perms_fit;
  otype_fits = otype_fits;
  base_aligned = rw (alignment_for-rounded base top ordered small) (rounded_base-mod base top);
  top_aligned = rw (alignment_for-rounded base top ordered small) (rounded_top-mod base top);
  in_window = rw (exponent_for-rounded base top ordered small) (is_in_window-rounded base top);
}

-- rounded bounds of any request can be encoded, with the exponent that they were rounded out for
encodable-rounded : (base top : ℕ) → base < 2 ^ 64 → base ≤ top → top - base ≤ 2 ^ 64
    → IsEncodable (rounding_exponent base top) (has_exponent (top - base)) (rounded_base base top) (rounded_top base top)
unfolding has_exponent
encodable-rounded base top fits ordered small = elim (cases_lt (top - base) 4096) [
  | inl short ↦
      rw (
        lt-leb 4096
            (top - base) short,
        rounding_exponent-short base top short,
        rounded_base-short base top short,
        rounded_top-short base top short,
      )
      (encodable-clear base top ordered fits short)
  | inr long ↦
      let granule = rounding_granule-long base top long in
      rw (le-leb 4096 (top - base) long)
      (encodable-internal (rounding_exponent base top) (rounded_base base top) (rounded_top base top) (rounding_exponent-high base top)
      (omega (arith, rounded_base-low base top, rounded_top-high base top)) (omega (arith, rounded_base-low base top))
      (rw granule at (rounded_base-mod base top))
      (rw granule at (rounded_top-mod base top)) (rounded_length-low base top long) (rounded_length-below base top ordered small long))
]

-- a top modulo 2 ^ 65 has the same mantissa
encoded_t-mod : (top e : ℕ) (ie : Bool) → e ≤ 52 → encoded_t (top % 2 ^ 65) e ie ≡ encoded_t top e ie
encoded_t-mod top e ie high =
    let sum : 65 - e + e ≡ 65 = omega arith in
    let rest : 53 - e + 12 ≡ 65 - e = omega arith in
    let field : top % 2 ^ 65 / 2 ^ e ≡ top / 2 ^ e % 2 ^ (65 - e) = rw sum at (field_of top (65 - e) e) in
    let whole : 2 ^ (65 - e) ≡ 2 ^ (53 - e) * 4096 = sym (ap (λ n. 2 ^ n) rest) ∙ pow-add 2 (53 - e) 12 in
    let divides = dvd-mul_left 4096 (2 ^ (53 - e)) in
    let same : top % 2 ^ 65 / 2 ^ e % 4096 ≡ top / 2 ^ e % 4096 = rw (field, whole) (mod-mod_of_dvd 4096 (top / 2 ^ e) divides) in
    ap (λ n. cond ie (n / 8 * 8 + e / 8) n) same

-- the word of rounded bounds
abbrev rounded_word : ℕ → ℕ → ℕ → Bool → ℕ → ℕ
rounded_word base top perms flag otype =
    joined perms flag otype (has_exponent (top - base))
    (encoded_t (rounded_top base top % 2 ^ 65) (rounding_exponent base top) (has_exponent (top - base)))
    (encoded_b (rounded_base base top) (rounding_exponent base top) (has_exponent (top - base))) base

module _ (base top perms : ℕ) (flag : Bool) (otype : ℕ) (fits : base < 2 ^ 64) (ordered : base ≤ top) (small : top - base ≤ 2 ^ 64)
    (otype_fits : otype < 2 ^ 18) where
  t_fits : encoded_t (rounded_top base top % 2 ^ 65) (rounding_exponent base top) (has_exponent (top - base)) < 4096
  t_fits = encoded_t-below _ (rounding_exponent base top) (has_exponent (top - base)) (rounding_exponent-high base top)

  b_fits : encoded_b (rounded_base base top) (rounding_exponent base top) (has_exponent (top - base)) < 16384
  b_fits = encoded_b-below (rounded_base base top) (rounding_exponent base top) (has_exponent (top - base))

  -- it has the mantissas of the rounded bounds
  mantissas-rounded : HasMantissas (rounded_word base top perms flag otype) (rounding_exponent base top) (has_exponent (top - base))
      (rounded_base base top) (rounded_top base top)
  mantissas-rounded = record {
    encodable = encodable-rounded base top fits ordered small;
    internal = ie_of-joined perms flag otype _ _ _ base otype_fits t_fits b_fits fits;
    t_field =
        t_field_of-joined perms flag otype _ _ _ base otype_fits t_fits b_fits fits
        ∙ encoded_t-mod (rounded_top base top) (rounding_exponent base top) (has_exponent (top - base)) (rounding_exponent-high base top);
    b_field = b_field_of-joined perms flag otype _ _ _ base otype_fits t_fits b_fits fits;
  }

  -- and decodes to them
  base_of_word-rounded : base_of_word (rounded_word base top perms flag otype) ≡ rounded_base base top
  base_of_word-rounded =
      let e : ℕ = rounding_exponent base top in
      let units = (encodable-rounded base top fits ordered small).base_units in
      let base_fits : rounded_base base top < 2 ^ 64 = omega (arith, rounded_base-low base top) in
      base_of_word-encoded (rounded_word base top perms flag otype) e (has_exponent (top - base)) (rounded_base base top)
      (rounded_top base top) mantissas-rounded
      ∙ ap (λ a. decoded_base e (rounded_base base top / 2 ^ e % 16384) a)
      (address_of-joined perms flag otype _ _ _ base otype_fits t_fits b_fits fits)
      ∙ decoded_base-in_window e (rounded_base base top / 2 ^ e) base (rounding_exponent-high base top) (rw units base_fits)
      (rw units (is_in_window-rounded base top))
      ∙ units

  top_of_word-rounded : top_of_word (rounded_word base top perms flag otype) ≡ rounded_top base top % 2 ^ 65
  top_of_word-rounded =
      top_of_word-encoded (rounded_word base top perms flag otype) (rounding_exponent base top) (has_exponent (top - base))
      (rounded_base base top) (rounded_top base top)
      mantissas-rounded base_of_word-rounded

-- a sound value's fields are in range
value_address-below : (v : CapValue) → IsSound v → value_address v < 2 ^ 64
value_address-below (Cap r) sound = sound.address_fits
value_address-below (Data n) sound = omega arith

value_otype-below : (v : CapValue) → IsSound v → value_otype v < 2 ^ 18
value_otype-below (Cap r) sound = sound.otype_fits
value_otype-below (Data n) sound = omega arith

-- the bounds of the data that a request gives
bounds-data : (v : CapValue) (length : ℕ) → IsSound v → length < 2 ^ 64
    → HasRoundedBounds v length
    (Data (encoded_at (rounding_exponent (value_address v) (request_top v length)) (has_exponent length) (bounded v length)))
unfolding bounded encoded_at joined
bounds-data v length sound short =
    let base : ℕ = value_address v in
    let top : ℕ = request_top v length in
    let fits = value_address-below v sound in
    let ordered : base ≤ top = omega arith in
    let small : top - base ≤ 2 ^ 64 = omega arith in
    let same : top - base ≡ length = omega arith in (
      rw same at
          (base_of_word-rounded base top (value_perms v) (value_flag v) (value_otype v) fits ordered small (value_otype-below v sound)),
      rw same at
          (top_of_word-rounded base top (value_perms v) (value_flag v) (value_otype v) fits ordered small (value_otype-below v sound)),
    )

-- where the bounds may be set, the result is a capability
pub with_bounds-set : (v : CapValue) (length : ℕ) → may_bound v length ≡ true → with_bounds v length ≡ Cap (bounded v length)
unfolding with_bounds
with_bounds-set v length may = cond-true _ _ _ may

-- where they may not, it is data
pub with_bounds-refused : (v : CapValue) (length : ℕ) → may_bound v length ≡ false
    → with_bounds v length
    ≡ Data (encoded_at (rounding_exponent (value_address v) (request_top v length)) (has_exponent length) (bounded v length))
unfolding with_bounds
with_bounds-refused v length may = cond-false _ _ _ may

-- a value with its bounds set has the rounded bounds, tagged or not
pub bounds-with_bounds : (v : CapValue) (length : ℕ) → IsSound v → length < 2 ^ 64 → HasRoundedBounds v length (with_bounds v length)
unfolding bounded
bounds-with_bounds v length sound short = elim (cases_Bool (may_bound v length)) [
  | inl may ↦ rw (with_bounds-set v length may) (refl, refl)
  | inr not_allowed ↦ rw (with_bounds-refused v length not_allowed) (bounds-data v length sound short)
]

-- where the bounds may be set, the operand's hold the request
holds_request : (r : Record) (length : ℕ) → may_bound (Cap r) length ≡ true → (r.base ≤ r.address) × (r.address + length ≤ r.top)
unfolding may_bound
holds_request r length may =
    let low : Bool = leb r.base r.address in
    let high : Bool = leb (r.address + length) r.top in
    let unsealed : (not (is_sealed (Cap r)) && (low && high)) ≡ true = may in
    let held = and_parts low high (and_parts (not (is_sealed (Cap r))) (low && high) unsealed).1 in
    (leb-true r.base r.address held.0, leb-true (r.address + length) r.top held.1)

-- and they hold the rounded bounds
bounded-inside : (r : Record) (length : ℕ) → IsWellFormed r → may_bound (Cap r) length ≡ true
    → (r.base ≤ rounded_base r.address (r.address + length)) × (rounded_top r.address (r.address + length) ≤ r.top)
bounded-inside r length well may =
    let held = holds_request r length may in
    rounded-inside_record r r.address (r.address + length) well (omega arith) held.0 held.1

-- the capability that is made is well-formed
pub IsWellFormed-bounded : (v : CapValue) (length : ℕ) → IsSound v → length < 2 ^ 64 → may_bound v length ≡ true
    → IsWellFormed (bounded v length)
unfolding bounded may_bound
IsWellFormed-bounded (Cap r) length well short may =
    let base : ℕ = r.address in
    let top : ℕ = r.address + length in
    let in_space = well.in_space in
    let inside = bounded-inside r length well may in
    let fits : rounded_top r.address (r.address + length) < 2 ^ 65 = omega arith in
    rw (mod-eq_of_lt fits)
    (IsWellFormed-rounded base top r.perms r.flag r.otype well.address_fits (omega arith) (omega arith)
    (omega arith) well.perms_fit well.otype_fits)
IsWellFormed-bounded (Data n) length sound short may = cc

-- a capability's bounds lie in the operand's
within-bounded : (v : CapValue) (length : ℕ) → IsSound v → may_bound v length ≡ true → LiesWithin (Cap (bounded v length)) v
unfolding bounded may_bound
within-bounded (Cap r) length sound may =
    let inside = bounded-inside r length sound may in
    (inside.0, omega arith)
within-bounded (Data n) length sound may = cc

pub within-with_bounds : (v : CapValue) (length : ℕ) → IsSound v → IsTrue (is_tagged (with_bounds v length))
    → LiesWithin (with_bounds v length) v
within-with_bounds v length sound = elim (cases_Bool (may_bound v length)) [
  | inl may ↦ rw (with_bounds-set v length may) (λ _. within-bounded v length sound may)
  | inr not_allowed ↦ rw (with_bounds-refused v length not_allowed) (λ tagged. cc)
]
