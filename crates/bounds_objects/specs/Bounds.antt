-- What setting bounds gives, as an object: the values of its text, without the picture.
use Rattle.std.specs.Prelude.{ℕ, ◌+◌, ◌-◌, ◌/◌, ◌^◌, if◌then◌else◌, List, [], ◌++◌, Option, Some}
use Rattle.std.specs.Prelude.{None, codes, bit_xor}
use Rattle.json.specs.Token.{Token}
use Rattle.cap_format.specs.Word.{null_word}
use Rattle.cap_bounds.specs.CapValue.{is_tagged, word_of, value_base, value_top}
use Rattle.cap_bounds.specs.Rounding.{rounding_exponent, rounding_granule, rounded_base, rounded_top, is_exact}
use Rattle.cap_bounds.specs.WindowEnds.{window_first, window_last}
use Rattle.cap_insns.specs.CapabilityRows.{representable_length, alignment_mask}
use Rattle.bounds_text.specs.BoundsText.{set, standing}
use Rattle.objects.specs.Items.{address_field, null_field, object_field, object_line, text_field, truth_field, wide_field}

-- where an address lies
unfoldable pub address_fields : ℕ → ℕ → Option ℕ → List Token
address_fields base length None = null_field (codes "address") ++ null_field (codes "lies")
address_fields base length (Some address) =
    address_field (codes "address") address ++ text_field (codes "lies") (standing base length address)

-- the lowest 64 bits of two numbers, as the halves of a word, or as the first and the last address of a window
abbrev pub pair_field : List ℕ → List ℕ → ℕ → List ℕ → ℕ → List Token
pair_field name first one second other = object_field name (address_field first one ++ address_field second other)

-- what is asked
unfoldable pub asked_field : ℕ → ℕ → List Token
asked_field base length =
    object_field (codes "request")
    (address_field (codes "base") base ++ wide_field (codes "top") (base + length) ++ address_field (codes "length") length)

-- whether that gives a capability, and exact bounds; and these, the top modulo 2 ^ 65
unfoldable pub given_fields : ℕ → ℕ → List Token
given_fields base length =
    let v = set base length in
    truth_field (codes "tag") (is_tagged v) ++ truth_field (codes "exact") (is_exact base (base + length))
    ++ address_field (codes "base") (value_base v) ++ wide_field (codes "top") (value_top v)

-- how many bytes rounding adds at either end; the granule, CRRL and CRAM
unfoldable pub rounding_fields : ℕ → ℕ → List Token
rounding_fields base length =
    let top = base + length in
    address_field (codes "below") (base - rounded_base base top) ++ address_field (codes "above") (rounded_top base top - top)
    ++ address_field (codes "granule") (rounding_granule base top)
    ++ address_field (codes "crrl") (representable_length length) ++ address_field (codes "cram") (alignment_mask length)

-- the halves of the word as it lies in memory
unfoldable pub stored_field : ℕ → ℕ → List Token
stored_field base length =
    let stored = bit_xor (word_of (set base length)) null_word in
    pair_field (codes "memory") (codes "low") stored (codes "high") (stored / 2 ^ 64)

unfoldable pub request_fields : ℕ → ℕ → List Token
request_fields base length =
    (asked_field base length ++ given_fields base length) ++ (rounding_fields base length ++ stored_field base length)

-- those of a capability: its window, and where an address lies
unfoldable pub window_fields : ℕ → ℕ → Option ℕ → List Token
window_fields base length address =
    let e = rounding_exponent base (base + length) in
    let low = rounded_base base (base + length) in
    pair_field (codes "window") (codes "first") (window_first e low) (codes "last") (window_last e low)
    ++ address_fields base length address

unfoldable pub bounds_object : ℕ → ℕ → Option ℕ → List ℕ
bounds_object base length address =
    object_line (request_fields base length ++ (if is_tagged (set base length) then window_fields base length address else []))
