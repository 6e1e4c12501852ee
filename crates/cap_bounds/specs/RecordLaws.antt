-- A record's canonical word means the record, and with another address it means the record's bounds exactly in its window.
use Rattle.std.proofs.Common.{◌≡◌, ℕ, ◌-◌, ◌/◌, ◌%◌, ◌^◌, ◌<◌, Bool, true, refl, sym, ap, ◌∙◌, ◌↔◌, IsTrue, arith}
use Rattle.std.proofs.Math.Nat.{mod-eq_of_lt}
use Rattle.cap_format.specs.Word.{address_of, perms_of, flag_of, otype_of, with_address_of}
use Rattle.cap_bounds.specs.Window.{decoded_base, base_of_word, top_of_word}
use Rattle.cap_bounds.specs.Record.{Record, IsWellFormed, IsWordWellFormed, has_exponent, exponent_for, window_holds, encoded_b, encoded_t}
use Rattle.cap_bounds.specs.Record.{encoded_at, encoded, decoded, WordMeansItsRecord, CanonicalWordIsWellFormed}
use Rattle.cap_bounds.specs.CapValue.{CapValue, Cap, Data, IsSound, is_tagged, word_of, ValueIsItsWordAndTag}
use Rattle.cap_bounds.specs.SetAddress.{BoundsStayInTheWindow, KeepsBounds}
use Rattle.cap_bounds.specs.BaseLaws.{decoded_base-in_window, is_in_window-from_base}
use Rattle.cap_bounds.specs.EncodingLaws.{IsEncodable, HasMantissas, encodable, base_of_word-encoded, top_of_word-encoded, encoded_t-below}
use Rattle.cap_bounds.specs.EncodingLaws.{encoded_b-below}
use Rattle.cap_bounds.specs.WordLaws.{joined, address_of-joined, b_field_of-joined, t_field_of-joined, ie_of-joined, otype_of-joined}
use Rattle.cap_bounds.specs.WordLaws.{flag_of-joined, perms_of-joined, joined-below, with_address_of-joined}

-- a record's exponent
abbrev pub exponent_in : Record → ℕ
exponent_in r = exponent_for (r.top - r.base)

-- whether it is internal
abbrev pub internal_in : Record → Bool
internal_in r = has_exponent (r.top - r.base)

-- a record's word with any address
abbrev pub word_at : Record → ℕ → ℕ
word_at r address =
    joined r.perms r.flag r.otype (internal_in r) (encoded_t r.top (exponent_in r) (internal_in r))
    (encoded_b r.base (exponent_in r) (internal_in r)) address

-- the canonical word is that with the record's own address
encoded-word_at : (r : Record) → encoded r ≡ word_at r r.address
unfolding encoded encoded_at joined
encoded-word_at r = refl

-- a well-formed record's word with any address
module _ (r : Record) (well : IsWellFormed r) (address : ℕ) (fits : address < 2 ^ 64) where
  -- what its mantissas rest on
  shape : IsEncodable (exponent_in r) (internal_in r) r.base r.top
  shape = encodable r well

  t_fits : encoded_t r.top (exponent_in r) (internal_in r) < 4096
  t_fits = encoded_t-below r.top (exponent_in r) (internal_in r) shape.exponent_high

  b_fits : encoded_b r.base (exponent_in r) (internal_in r) < 16384
  b_fits = encoded_b-below r.base (exponent_in r) (internal_in r)

  -- its fields are the record's
  address_of-word_at : address_of (word_at r address) ≡ address
  address_of-word_at = address_of-joined r.perms r.flag r.otype (internal_in r) _ _ address well.otype_fits t_fits b_fits fits

  perms_of-word_at : perms_of (word_at r address) ≡ r.perms
  perms_of-word_at = perms_of-joined r.perms r.flag r.otype (internal_in r) _ _ address well.otype_fits t_fits b_fits fits well.perms_fit

  flag_of-word_at : flag_of (word_at r address) ≡ r.flag
  flag_of-word_at = flag_of-joined r.perms r.flag r.otype (internal_in r) _ _ address well.otype_fits t_fits b_fits fits

  otype_of-word_at : otype_of (word_at r address) ≡ r.otype
  otype_of-word_at = otype_of-joined r.perms r.flag r.otype (internal_in r) _ _ address well.otype_fits t_fits b_fits fits

  -- and so are its mantissas
  mantissas-word_at : HasMantissas (word_at r address) (exponent_in r) (internal_in r) r.base r.top
  mantissas-word_at = record {
    encodable = shape;
    internal = ie_of-joined r.perms r.flag r.otype (internal_in r) _ _ address well.otype_fits t_fits b_fits fits;
    t_field = t_field_of-joined r.perms r.flag r.otype (internal_in r) _ _ address well.otype_fits t_fits b_fits fits;
    b_field = b_field_of-joined r.perms r.flag r.otype (internal_in r) _ _ address well.otype_fits t_fits b_fits fits;
  }

  -- it has 128 bits
  word_at-below : word_at r address < 2 ^ 128
  word_at-below = joined-below r.perms r.flag r.otype (internal_in r) _ _ address well.otype_fits t_fits b_fits fits well.perms_fit

  -- its base is that of the record's mantissa at this address
  base_of_word-word_at : base_of_word (word_at r address) ≡ decoded_base (exponent_in r) (r.base / 2 ^ exponent_in r % 16384) address
  base_of_word-word_at =
      base_of_word-encoded (word_at r address) (exponent_in r) (internal_in r) r.base r.top mantissas-word_at
      ∙ ap (λ a. decoded_base (exponent_in r) (r.base / 2 ^ exponent_in r % 16384) a) address_of-word_at

  -- in the window the base stays
  base_of_word-in_window : window_holds r address ≡ true → base_of_word (word_at r address) ≡ r.base
  base_of_word-in_window holds =
      base_of_word-word_at
      ∙ decoded_base-in_window (exponent_in r) (r.base / 2 ^ exponent_in r) address shape.exponent_high (rw shape.base_units well.base_fits)
      (rw shape.base_units holds)
      ∙ shape.base_units

  -- and so does the top
  top_of_word-in_window : window_holds r address ≡ true → top_of_word (word_at r address) ≡ r.top
  top_of_word-in_window holds =
      let in_space = well.in_space in
      let fits : r.top < 2 ^ 65 = omega arith in
      top_of_word-encoded (word_at r address) (exponent_in r) (internal_in r) r.base r.top mantissas-word_at (base_of_word-in_window holds)
      ∙ mod-eq_of_lt fits

  -- where the base stays, the window holds the address
  window_holds-from_base : base_of_word (word_at r address) ≡ r.base → window_holds r address ≡ true
  window_holds-from_base same =
      rw shape.base_units at
      (is_in_window-from_base (exponent_in r) (r.base / 2 ^ exponent_in r) address (rw shape.base_units well.base_fits)
      (sym base_of_word-word_at ∙ same ∙ sym shape.base_units))

  -- it is the canonical word with the address replaced
  with_address_of-encoded : with_address_of (encoded r) address ≡ word_at r address
  with_address_of-encoded =
      ap (λ w. with_address_of w address) (encoded-word_at r)
      ∙ with_address_of-joined r.perms r.flag r.otype (internal_in r) _ _ r.address well.otype_fits t_fits b_fits well.address_fits address

-- every well-formed record's word means that record again
pub decoded-encoded : WordMeansItsRecord
unfolding decoded
decoded-encoded r well =
    let a : ℕ = r.address in
    let fits = well.address_fits in
    rw (
      encoded-word_at r,
      base_of_word-in_window r well a fits well.in_window,
      top_of_word-in_window r well a fits well.in_window,
      address_of-word_at r well a fits,
      perms_of-word_at r well a fits,
      flag_of-word_at r well a fits,
      otype_of-word_at r well a fits,
    ) refl

-- it has 128 bits and may be tagged
pub encoded-well_formed : CanonicalWordIsWellFormed
encoded-well_formed r well =
    let same = decoded-encoded r well in (
      rw (encoded-word_at r)
          (word_at-below r well r.address well.address_fits),
      record { decodes = rw same well; canonical = ap encoded same },
    )

-- with another address it means the same bounds exactly where the window holds that address
pub bounds-in_window : BoundsStayInTheWindow
bounds-in_window r address well fits = (
  λ holds. rw (with_address_of-encoded r well address fits)
      (base_of_word-in_window r well address fits holds, top_of_word-in_window r well address fits holds),
  λ same. window_holds-from_base r well address fits (rw (with_address_of-encoded r well address fits) at same.0),
)

-- a sound value is what its word and its tag mean
pub value_of-word_of : ValueIsItsWordAndTag
value_of-word_of (Cap r) sound = ap Cap (decoded-encoded r sound)
value_of-word_of (Data n) sound = refl

-- a sound value's word may be tagged where the value is
pub word_of-well_formed : (v : CapValue) → IsSound v → is_tagged v ≡ true → IsWordWellFormed (word_of v)
word_of-well_formed (Cap r) sound tagged = (encoded-well_formed r sound).1
word_of-well_formed (Data n) sound tagged = cc

-- a well-formed word's bounds stay exactly where its record's window holds the address
pub keeps_bounds-in_window : (word address : ℕ) → IsWordWellFormed word → address < 2 ^ 64
    → IsTrue (window_holds (decoded word) address) ↔ KeepsBounds word address
unfolding decoded
keeps_bounds-in_window word address well fits = rw well.canonical at (bounds-in_window (decoded word) address well.decodes fits)
