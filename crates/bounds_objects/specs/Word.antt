-- What the word of a capability means, as an object: its two forms, whether it may be tagged, and what its fields say.
use Rattle.std.specs.Prelude.{◌≡◌, ℕ, ◌/◌, ◌^◌, ◌↔◌, Bool, IsTrue, List, ◌++◌, codes, bit_xor}
use Rattle.json.specs.Token.{Token}
use Rattle.cap_format.specs.Word.{address_of, b_field_of, flag_of, ie_of, null_word, otype_of, perms_of, t_field_of}
use Rattle.cap_bounds.specs.Mantissa.{exponent_of}
use Rattle.cap_bounds.specs.Record.{IsWordWellFormed}
use Rattle.cap_bounds.specs.Window.{base_of_word, top_of_word}
use Rattle.cap_bounds.specs.WindowEnds.{window_first, window_last}
use Rattle.cap_rights.specs.Perms.{hardware_view}
use Rattle.bounds_text.specs.Letters.{permission_letters}
use Rattle.bounds_text.specs.WordText.{bytes_between, sealing_of}
use Rattle.bounds_text.specs.declared.word.Sealing.{Sealing}
use Rattle.bounds_text.specs.declared.word.Sealing.TheVariants.{Unsealed, Sentry, Reserved, Sealed}
use Rattle.objects.specs.Items.{address_field, number_field, object_line, text_field, truth_field, wide_field}
use Rattle.bounds_objects.specs.Bounds.{pair_field}

abbrev pub sealing_word : Sealing → List ℕ
sealing_word Unsealed = codes "unsealed"
sealing_word Sentry = codes "sentry"
sealing_word Reserved = codes "reserved"
sealing_word Sealed = codes "sealed"

-- the halves of both forms, the upper one first
abbrev pub halves_field : List ℕ → ℕ → List Token
halves_field name word = pair_field name (codes "high") (word / 2 ^ 64) (codes "low") word

unfoldable pub half_fields : ℕ → List Token
half_fields word = halves_field (codes "logical") word ++ halves_field (codes "memory") (bit_xor word null_word)

-- whether the word may be tagged; its address and its bounds, the top modulo 2 ^ 65
unfoldable pub place_fields : Bool → ℕ → List Token
place_fields well_formed word =
    truth_field (codes "well_formed") well_formed ++ address_field (codes "address") (address_of word)
    ++ address_field (codes "base") (base_of_word word) ++ wide_field (codes "top") (top_of_word word)

-- how many bytes lie between the bounds; the permissions as CGetPerm gives them, and in letters; and the type
unfoldable pub right_fields : ℕ → List Token
right_fields word =
    wide_field (codes "length") (bytes_between (base_of_word word) (top_of_word word))
    ++ number_field (codes "perms") (hardware_view (perms_of word)) ++ text_field (codes "letters") (permission_letters (perms_of word))
    ++ number_field (codes "otype") (otype_of word) ++ text_field (codes "sealing") (sealing_word (sealing_of (otype_of word)))

-- the flag; the fields that the bounds are encoded by, and the exponent that they say
unfoldable pub encoding_fields : ℕ → List Token
encoding_fields word =
    truth_field (codes "flag") (flag_of word) ++ truth_field (codes "ie") (ie_of word)
    ++ number_field (codes "t") (t_field_of word) ++ number_field (codes "b") (b_field_of word)
    ++ number_field (codes "exponent") (exponent_of word)

unfoldable pub form_fields : Bool → ℕ → List Token
form_fields well_formed word = half_fields word ++ place_fields well_formed word

-- and the window's ends
unfoldable pub field_fields : ℕ → List Token
field_fields word =
    let e = exponent_of word in
    let base = base_of_word word in
    right_fields word ++ encoding_fields word
    ++ pair_field (codes "window") (codes "first") (window_first e base) (codes "last") (window_last e base)

-- the line of a word's object, which says whether the word is well-formed
abbrev pub IsObjectOfWord : ℕ → List ℕ → Type 0
IsObjectOfWord word line =
    (well_formed : Bool) × (IsTrue well_formed ↔ IsWordWellFormed word)
    × (line ≡ object_line (form_fields well_formed word ++ field_fields word))
