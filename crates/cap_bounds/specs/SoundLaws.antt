-- A sound value's fields are in range, and what is made of sound values is sound.
use Rattle.std.proofs.Common.{◌≡◌, ℕ, ◌%◌, ◌^◌, ◌<◌, Bool, true, false, refl, inl, inr, arith}
use Rattle.std.proofs.lemmas.Bool.{and_parts, cases_Bool, cond_both}
use Rattle.cap_bounds.specs.Mantissa.{exponent_of, base_mantissa}
use Rattle.cap_bounds.specs.Window.{base_of_word}
use Rattle.cap_format.specs.Word.{address_of}
use Rattle.cap_bounds.specs.BaseLaws.{decoded_base-below}
use Rattle.cap_bounds.specs.Record.{Record, IsWellFormed, IsWordWellFormed, has_exponent, encoded_at, window_holds}
use Rattle.cap_bounds.specs.RecordLaws.{encoded-well_formed}
use Rattle.cap_bounds.specs.CapValue.{CapValue, Cap, Data, IsSound, word_of, value_of, value_base, value_address, value_perms, value_flag}
use Rattle.cap_bounds.specs.CapValue.{value_otype, integer}
use Rattle.cap_bounds.specs.EncodingLaws.{encoded_t-below, encoded_b-below}
use Rattle.cap_bounds.specs.WordLaws.{joined, joined-below}
use Rattle.cap_bounds.specs.Rounding.{rounding_exponent, rounded_base, rounded_top}
use Rattle.cap_bounds.specs.RoundingLaws.{rounding_exponent-high}
use Rattle.cap_bounds.specs.SetAddress.{at_address, data_at}
use Rattle.cap_bounds.specs.SetBounds.{request_top, bounded, may_bound, with_bounds}
use Rattle.cap_bounds.specs.SetBoundsLaws.{with_bounds-set, with_bounds-refused, IsWellFormed-bounded}

-- ---- a sound value's fields

pub value_address-below : (v : CapValue) → IsSound v → value_address v < 2 ^ 64
value_address-below (Cap r) sound = sound.address_fits
value_address-below (Data n) sound = omega arith

pub value_perms-below : (v : CapValue) → IsSound v → value_perms v < 2 ^ 16
value_perms-below (Cap r) sound = sound.perms_fit
value_perms-below (Data n) sound = omega arith

pub value_otype-below : (v : CapValue) → IsSound v → value_otype v < 2 ^ 18
value_otype-below (Cap r) sound = sound.otype_fits
value_otype-below (Data n) sound = omega arith

base_of_word-below : (word : ℕ) → base_of_word word < 2 ^ 64
unfolding base_of_word
base_of_word-below word = decoded_base-below (exponent_of word) (base_mantissa word) (address_of word)

pub value_base-below : (v : CapValue) → IsSound v → value_base v < 2 ^ 64
value_base-below (Cap r) sound = sound.base_fits
value_base-below (Data n) sound = base_of_word-below n

pub word_of-below : (v : CapValue) → IsSound v → word_of v < 2 ^ 128
word_of-below (Cap r) sound = (encoded-well_formed r sound).0
word_of-below (Data n) sound = sound

-- ---- words and integers

-- what 128 bits mean, tagged or not
pub IsSound-value_of : (word : ℕ) (tag : Bool) → word < 2 ^ 128 → (tag ≡ true → IsWordWellFormed word) → IsSound (value_of word tag)
IsSound-value_of word true fits formed = (formed refl).decodes
IsSound-value_of word false fits formed = fits

pub IsSound-integer : (n : ℕ) → n < 2 ^ 64 → IsSound (integer n)
IsSound-integer n fits = omega arith

-- ---- another address

IsWellFormed-address : (r : Record) → IsWellFormed r → (a : ℕ) → a < 2 ^ 64 → window_holds r a ≡ true
    → IsWellFormed (record r { address = a })
IsWellFormed-address r well a fits holds = record {
  ordered = well.ordered;
  in_space = well.in_space;
  base_fits = well.base_fits;
  address_fits = fits;
  perms_fit = well.perms_fit;
  otype_fits = well.otype_fits;
  base_aligned = well.base_aligned;
  top_aligned = well.top_aligned;
  in_window = holds;
}

data_at-below : (n a : ℕ) → n < 2 ^ 128 → a < 2 ^ 64 → IsSound (data_at (Data n) a)
data_at-below n a small fits = omega arith

pub IsSound-at_address : (v : CapValue) (a : ℕ) → IsSound v → a < 2 ^ 64 → IsSound (at_address v a)
unfolding at_address
IsSound-at_address (Cap r) a sound fits =
    cond_both _ (Cap (record r { address = a })) (data_at (Cap r) a) IsSound (λ e. IsWellFormed-address r sound a fits (and_parts _ _ e).1)
    (λ _. data_at-below (word_of (Cap r)) a (word_of-below (Cap r) sound) fits)
IsSound-at_address (Data n) a sound fits = data_at-below n a sound fits

-- ---- other bounds

-- the bits of a request that is refused
bounded-below : (v : CapValue) (length : ℕ) → IsSound v
    → encoded_at (rounding_exponent (value_address v) (request_top v length)) (has_exponent length) (bounded v length) < 2 ^ 128
unfolding bounded encoded_at joined
bounded-below v length sound =
    let e : ℕ = rounding_exponent (value_address v) (request_top v length) in
    joined-below (value_perms v) (value_flag v) (value_otype v) (has_exponent length) _ _ (value_address v) (value_otype-below v sound)
    (encoded_t-below (rounded_top (value_address v) (request_top v length) % 2 ^ 65) e (has_exponent length)
    (rounding_exponent-high (value_address v) (request_top v length)))
    (encoded_b-below (rounded_base (value_address v) (request_top v length)) e (has_exponent length)) (value_address-below v sound)
    (value_perms-below v sound)

pub IsSound-with_bounds : (v : CapValue) (length : ℕ) → IsSound v → length < 2 ^ 64 → IsSound (with_bounds v length)
IsSound-with_bounds v length sound short = elim (cases_Bool (may_bound v length)) [
  | inl may ↦ rw (with_bounds-set v length may) (IsWellFormed-bounded v length sound short may)
  | inr not_allowed ↦ rw (with_bounds-refused v length not_allowed) (bounded-below v length sound)
]
