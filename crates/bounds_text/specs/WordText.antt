-- What the word of a capability means, as a text: its two forms, whether it may be tagged, and what its fields say.
use Rattle.std.specs.Prelude.{◌≡◌, ℕ, ◌+◌, ◌-◌, ◌*◌, ◌/◌, ◌%◌, ◌^◌, ◌==◌, ◌↔◌, Bool, IsTrue, if◌then◌else◌, List, ◌++◌, codes}
use Rattle.std.specs.Prelude.{decimal, bit_xor}
use Rattle.base.specs.ObjectType.{is_reserved, sentry_type, unsealed_type}
use Rattle.cap_format.specs.Word.{address_of, b_field_of, flag_of, ie_of, null_word, otype_of, perms_of, t_field_of}
use Rattle.cap_bounds.specs.Mantissa.{exponent_of}
use Rattle.cap_bounds.specs.Window.{base_of_word, top_of_word}
use Rattle.cap_bounds.specs.Record.{IsWordWellFormed}
use Rattle.cap_rights.specs.Perms.{hardware_view}
use Rattle.texts.specs.Hex.{hex_of}
use Rattle.bounds_text.specs.Letters.{permission_letters}
use Rattle.cap_bounds.specs.WindowEnds.{window_first, window_last}
use Rattle.bounds_text.specs.declared.word.Sealing.{Sealing}
use Rattle.bounds_text.specs.declared.word.Sealing.TheVariants.{Unsealed, Sentry, Reserved, Sealed}

-- the word that two halves are, the upper one first: in logical form, or as it stands in memory
abbrev pub word_of_halves : ℕ → ℕ → Bool → ℕ
word_of_halves high low memory = if memory then bit_xor (high * 2 ^ 64 + low) null_word else high * 2 ^ 64 + low

-- from base to top, modulo 2 ^ 65
abbrev pub bytes_between : ℕ → ℕ → ℕ
bytes_between base top = (top + 2 ^ 65 - base) % 2 ^ 65

-- what an object type says
unfoldable pub sealing_of : ℕ → Sealing
sealing_of otype =
    if otype == unsealed_type then Unsealed else if otype == sentry_type then Sentry else if is_reserved otype then Reserved else Sealed

abbrev pub sealing_text : Sealing → List ℕ
sealing_text Unsealed = codes " unsealed\n"
sealing_text Sentry = codes " sentry\n"
sealing_text Reserved = codes " sealed, reserved\n"
sealing_text Sealed = codes " sealed\n"

-- the halves of both forms, the upper one first; whether the word may be tagged; its address and its bounds, the top modulo 2 ^ 65
unfoldable pub form_lines : Bool → ℕ → List ℕ
form_lines well_formed word =
    let stored = bit_xor word null_word in
    codes "logical  " ++ hex_of 16 (word / 2 ^ 64) ++ codes " " ++ hex_of 16 word
    ++ codes "\nmemory   " ++ hex_of 16 (stored / 2 ^ 64) ++ codes " " ++ hex_of 16 stored
    ++ (if well_formed then codes "\ntag      0 or 1\n" else codes "\ntag      0, as the word is malformed\n")
    ++ codes "address  " ++ hex_of 16 (address_of word)
    ++ codes "\nbounds   " ++ hex_of 16 (base_of_word word) ++ codes " " ++ hex_of 17 (top_of_word word) ++ codes "\n"

-- How many bytes lie between the bounds; the permissions as CGetPerm gives them, and in letters; the type and the flag; the fields that
-- the bounds are encoded by, as they stand in the word, and the exponent that they say; and the window's ends.
unfoldable pub field_lines : ℕ → List ℕ
field_lines word =
    let e = exponent_of word in
    let base = base_of_word word in
    codes "length   " ++ decimal (bytes_between base (top_of_word word))
    ++ codes "\nperms    " ++ hex_of 5 (hardware_view (perms_of word)) ++ codes " " ++ permission_letters (perms_of word)
    ++ codes "\notype    " ++ hex_of 5 (otype_of word) ++ sealing_text (sealing_of (otype_of word))
    ++ (if flag_of word then codes "flag     1\n" else codes "flag     0\n")
    ++ (if ie_of word then codes "encoding IE 1 T " else codes "encoding IE 0 T ") ++ hex_of 3 (t_field_of word)
    ++ codes " B " ++ hex_of 4 (b_field_of word) ++ codes ", exponent " ++ decimal e
    ++ codes "\nwindow   " ++ hex_of 16 (window_first e base) ++ codes " " ++ hex_of 16 (window_last e base) ++ codes "\n"

unfoldable pub word_text : Bool → ℕ → List ℕ
word_text well_formed word = form_lines well_formed word ++ field_lines word

-- the text of a word, which says whether it is well-formed
abbrev pub ShowsWord : ℕ → List ℕ → Type 0
ShowsWord word text = (well_formed : Bool) × (IsTrue well_formed ↔ IsWordWellFormed word) × (text ≡ word_text well_formed word)
