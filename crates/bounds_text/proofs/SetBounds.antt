-- The bounds that are set on root: their exponent stands in their word, and their window is that of the rounding exponent.
use Rattle.std.proofs.Common.{◌≡◌, ℕ, ◌+◌, ◌-◌, ◌%◌, ◌^◌, ◌<◌, ◌≤◌, Bool, true, false, leb, not, ◌&&◌, refl, sym, ap, ◌∙◌}
use Rattle.std.proofs.Common.{inl, inr, arith}
use Rattle.std.proofs.Math.Nat.{mod-eq_of_lt}
use Rattle.std.proofs.Math.Pow.{pow_mono}
use Rattle.std.proofs.lemmas.Bool.{leb-true, le-leb, and_parts, cases_lt, cases_Bool}
use Rattle.cap_bounds.specs.Mantissa.{exponent_of}
use Rattle.cap_bounds.specs.Record.{Record, has_exponent, exponent_for, window_holds, encoded_b, encoded_t, encoded_at, encoded}
use Rattle.cap_bounds.specs.CapValue.{is_tagged, is_sealed, word_of}
use Rattle.cap_bounds.specs.Root.{root}
use Rattle.cap_bounds.specs.Rounding.{rounding_exponent, rounding_granule, rounded_base, rounded_top}
use Rattle.cap_bounds.specs.SetBounds.{bounded, may_bound, with_bounds}
use Rattle.cap_bounds.specs.EncodingLaws.{encoded_t-below, encoded_b-below}
use Rattle.cap_bounds.specs.WordLaws.{joined, b_field_of-joined, t_field_of-joined, ie_of-joined}
use Rattle.cap_bounds.specs.RoundingLaws.{rounding_exponent-high, rounding_exponent-short, rounding_granule-short, rounding_granule-long}
use Rattle.cap_bounds.specs.RoundingLaws.{rounding_granule-positive, rounded_base-low, rounded_top-high, has_exponent-rounded}
use Rattle.cap_bounds.specs.RoundingLaws.{exponent_for-rounded}
use Rattle.cap_bounds.specs.SetBoundsLaws.{with_bounds-set, with_bounds-refused}
use Rattle.cap_bounds.specs.WindowEnds.{window_last, window_place}
use Rattle.cap_bounds.specs.WindowEndsLaws.{is_in_window-place}

-- a granule has 2 ^ 55 bytes at most
pub rounding_granule-high : (base top : ℕ) → rounding_granule base top ≤ 2 ^ 55
rounding_granule-high base top = elim (cases_lt (top - base) 4096) [
  | inl short ↦ rw (rounding_granule-short base top short) (omega arith)
  | inr long ↦
      let high : rounding_exponent base top + 3 ≤ 55 = omega (arith, rounding_exponent-high base top) in
      rw (rounding_granule-long base top long) (pow_mono high)
]

-- so rounding adds fewer bytes above
pub rounded_top-near : (base top : ℕ) → rounded_top base top < top + 2 ^ 55
unfolding rounded_top
rounded_top-near base top = omega (arith, rounding_granule-positive base top, rounding_granule-high base top)

-- the exponent that stands in a word is the one that it was encoded with
pub exponent_of-encoded_at : (e : ℕ) (ie : Bool) (r : Record) → e ≤ 52 → (ie ≡ false → e ≡ 0) → r.otype < 2 ^ 18 → r.address < 2 ^ 64
    → exponent_of (encoded_at e ie r) ≡ e
unfolding exponent_of encoded_at joined
exponent_of-encoded_at e true r high clear otype_fits fits =
    let t : ℕ = encoded_t r.top e true in
    let b : ℕ = encoded_b r.base e true in
    let t_fits : t < 4096 = encoded_t-below r.top e true high in
    let b_fits : b < 16384 = encoded_b-below r.base e true in
    rw (
      ie_of-joined r.perms r.flag r.otype true t b r.address otype_fits t_fits b_fits fits,
      t_field_of-joined r.perms r.flag r.otype true t b r.address otype_fits t_fits b_fits fits,
      b_field_of-joined r.perms r.flag r.otype true t b r.address otype_fits t_fits b_fits fits,
    ) (omega arith)
exponent_of-encoded_at e false r high clear otype_fits fits =
    let t : ℕ = encoded_t r.top e false in
    let b : ℕ = encoded_b r.base e false in
    let t_fits : t < 4096 = encoded_t-below r.top e false high in
    let b_fits : b < 16384 = encoded_b-below r.base e false in
    rw (ie_of-joined r.perms r.flag r.otype false t b r.address otype_fits t_fits b_fits fits) (sym (clear refl))

-- where the bounds of root may be set, the request ends in the address space
request_ends : (base length : ℕ) → may_bound (root base false) length ≡ true → base + length ≤ 2 ^ 64
unfolding may_bound
request_ends base length may =
    let low : Bool = leb 0 base in
    let high : Bool = leb (base + length) (2 ^ 64) in
    let unsealed : (not (is_sealed (root base false)) && (low && high)) ≡ true = may in
    let held = and_parts low high (and_parts (not (is_sealed (root base false))) (low && high) unsealed).1 in
    leb-true (base + length) (2 ^ 64) held.1

-- and the rounded top isn't cut
top-set : (base length : ℕ) → base + length ≤ 2 ^ 64 → rounded_top base (base + length) % 2 ^ 65 ≡ rounded_top base (base + length)
top-set base length ends = mod-eq_of_lt (omega (arith, rounded_top-near base (base + length)))

-- the exponent of bounds that are set
exponent_for-set : (base length : ℕ) → length < 2 ^ 64 → base + length ≤ 2 ^ 64
    → exponent_for ((bounded (root base false) length).top - (bounded (root base false) length).base)
    ≡ rounding_exponent base (base + length)
unfolding bounded
exponent_for-set base length fits ends =
    rw (top-set base length ends) (exponent_for-rounded base (base + length) (omega arith) (omega arith))

has_exponent-set : (base length : ℕ) → base + length ≤ 2 ^ 64
    → has_exponent ((bounded (root base false) length).top - (bounded (root base false) length).base) ≡ has_exponent length
unfolding bounded
has_exponent-set base length ends =
    let same : base + length - base ≡ length = omega arith in
    rw (top-set base length ends) (has_exponent-rounded base (base + length) ∙ ap has_exponent same)

-- the word of bounds that are set, tagged or not
word_of-set : (base length : ℕ) → length < 2 ^ 64
    → word_of (with_bounds (root base false) length)
    ≡ encoded_at (rounding_exponent base (base + length)) (has_exponent length) (bounded (root base false) length)
unfolding encoded
word_of-set base length fits = elim (cases_Bool (may_bound (root base false) length)) [
  | inl may ↦
      let ends = request_ends base length may in
      rw (with_bounds-set (root base false) length may, exponent_for-set base length fits ends, has_exponent-set base length ends) refl
  | inr refused ↦ rw (with_bounds-refused (root base false) length refused) refl
]

-- without an exponent it is 0
exponent-clear : (base length : ℕ) → has_exponent length ≡ false → rounding_exponent base (base + length) ≡ 0
unfolding has_exponent
exponent-clear base length clear = elim (cases_lt length 4096) [
  | inl short ↦ rounding_exponent-short base (base + length) (omega arith)
  | inr long ↦ let wide = le-leb 4096 length long in cc
]

-- the word's exponent is the rounding exponent
pub exponent_of_set : (base length : ℕ) → base < 2 ^ 64 → length < 2 ^ 64
    → exponent_of (word_of (with_bounds (root base false) length)) ≡ rounding_exponent base (base + length)
unfolding bounded
exponent_of_set base length base_fits fits =
    rw (word_of-set base length fits)
    (exponent_of-encoded_at (rounding_exponent base (base + length)) (has_exponent length) (bounded (root base false) length)
    (rounding_exponent-high base (base + length)) (exponent-clear base length) (omega arith) base_fits)

-- and is at most 52, as that of any word
-- the bytes that are added above are found from a top modulo 2 ^ 65
pub added_found : (base length top : ℕ) → base < 2 ^ 64 → length < 2 ^ 64 → top ≡ rounded_top base (base + length) % 2 ^ 65
    → (top + 2 ^ 65 - (base + length)) % 2 ^ 65 ≡ rounded_top base (base + length) - (base + length)
added_found base length top base_fits fits cut =
    let high = rounded_top-high base (base + length) in
    let near = rounded_top-near base (base + length) in
    omega arith

pub added_few : (base length : ℕ) → rounded_top base (base + length) - (base + length) < 2 ^ 55
added_few base length = omega (arith, rounded_top-near base (base + length))

-- rounding begins no higher
pub base_low : (base length : ℕ) → rounded_base base (base + length) ≤ base
base_low base length = rounded_base-low base (base + length)

-- where the result is a capability, the request ends in the address space
tagged_ends : (base length : ℕ) → is_tagged (with_bounds (root base false) length) ≡ true → base + length ≤ 2 ^ 64
tagged_ends base length tagged = elim (cases_Bool (may_bound (root base false) length)) [
  | inl may ↦ request_ends base length may
  | inr refused ↦ let bad : false ≡ true = rw (with_bounds-refused (root base false) length refused) at tagged in cc
]

-- and its top is the rounded one
pub top_whole : (base length top : ℕ) → is_tagged (with_bounds (root base false) length) ≡ true
    → top ≡ rounded_top base (base + length) % 2 ^ 65 → top ≡ rounded_top base (base + length)
top_whole base length top tagged cut = cut ∙ top-set base length (tagged_ends base length tagged)

-- their window goes from its first address to its last
pub window_holds-set : (base length address : ℕ) → base < 2 ^ 64 → length < 2 ^ 64 → base + length ≤ 2 ^ 64 → address < 2 ^ 64
    → let e = rounding_exponent base (base + length) in
    let low = rounded_base base (base + length) in
    window_holds (bounded (root base false) length) address
    ≡ leb (window_place e low address) (window_place e low (window_last e low))
unfolding bounded
window_holds-set base length address base_fits length_fits ends fits =
    let e : ℕ = rounding_exponent base (base + length) in
    let low : ℕ = rounded_base base (base + length) in
    let low_fits : low < 2 ^ 64 = omega (arith, rounded_base-low base (base + length)) in
    rw (exponent_for-set base length length_fits ends) (is_in_window-place e low address low_fits fits)

-- so an address is tried by its place and the last one's
pub tried_by_place : (base length address : ℕ) → base < 2 ^ 64 → length < 2 ^ 64 → address < 2 ^ 64
    → is_tagged (with_bounds (root base false) length) ≡ true
    → let e = rounding_exponent base (base + length) in
    let low = rounded_base base (base + length) in
    window_holds (bounded (root base false) length) address
    ≡ leb (window_place e low address) (window_place e low (window_last e low))
tried_by_place base length address base_fits length_fits fits tagged =
    window_holds-set base length address base_fits length_fits (tagged_ends base length tagged) fits
