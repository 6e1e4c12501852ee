-- What setting bounds gives, as a text: what CSetBounds makes of root with the base as its address, and so many bytes.
use Rattle.std.specs.Prelude.{ℕ, ◌+◌, ◌-◌, ◌/◌, ◌^◌, false, ◌&&◌, nat_le, nat_lt, if◌then◌else◌, List, [], ◌++◌, Option, Some}
use Rattle.std.specs.Prelude.{None, codes, decimal, bit_xor}
use Rattle.cap_format.specs.Word.{null_word}
use Rattle.cap_bounds.specs.Record.{window_holds}
use Rattle.cap_bounds.specs.CapValue.{CapValue, is_tagged, word_of, value_base, value_top}
use Rattle.cap_bounds.specs.Root.{root}
use Rattle.cap_bounds.specs.Rounding.{rounding_exponent, rounding_granule, rounded_base, rounded_top, is_exact}
use Rattle.cap_bounds.specs.SetBounds.{bounded, with_bounds}
use Rattle.cap_insns.specs.CapabilityRows.{representable_length, alignment_mask}
use Rattle.texts.specs.Hex.{hex_of}
use Rattle.cap_bounds.specs.WindowEnds.{window_first, window_last}
use Rattle.bounds_text.specs.Picture.{column_size, first_column, last_column, picture}
use Rattle.bounds_text.specs.declared.window.Span.{Span}

-- what CSetBounds gives: a capability, or where the request ends past the address space data
abbrev pub set : ℕ → ℕ → CapValue
set base length = with_bounds (root base false) length

-- where an address lies
unfoldable pub standing : ℕ → ℕ → ℕ → List ℕ
standing base length address =
    let v = set base length in
    if nat_le (value_base v) address && nat_lt address (value_top v) then codes "in bounds"
    else if window_holds (bounded (root base false) length) address then codes "in the window"
    else codes "outside"

-- nothing where no address is asked for
abbrev pub address_line : ℕ → ℕ → Option ℕ → List ℕ
address_line base length None = []
address_line base length (Some address) =
    codes "address  " ++ hex_of 16 address ++ codes " " ++ standing base length address ++ codes "\n"

-- the columns that the bounds take
abbrev pub span_of : ℕ → ℕ → Span
span_of base length =
    let top = base + length in
    let e = rounding_exponent base top in
    record {
      first = first_column e (rounded_base base top);
      last = last_column e (rounded_base base top) (rounded_top base top);
      lowered = nat_lt (rounded_base base top) base;
      raised = nat_lt top (rounded_top base top);
    }

-- The request; whether it gives a capability; whether its bounds are exact; these bounds, the top modulo 2 ^ 65; how many bytes rounding
-- adds at either end; the granule, CRRL and CRAM; and the halves of the word as it lies in memory, that at the lower addresses first.
unfoldable pub request_lines : ℕ → ℕ → List ℕ
request_lines base length =
    let top = base + length in
    let v = set base length in
    let stored = bit_xor (word_of v) null_word in
    codes "request  " ++ hex_of 16 base ++ codes " " ++ hex_of 17 top ++ codes " length " ++ decimal length
    ++ (if is_tagged v then codes "\ntag      1\n" else codes "\ntag      0, as the request ends past 2^64\n")
    ++ (if is_exact base top then codes "exact    yes\n" else codes "exact    no\n")
    ++ codes "bounds   " ++ hex_of 16 (value_base v) ++ codes " " ++ hex_of 17 (value_top v)
    ++ codes "\nadded    " ++ decimal (base - rounded_base base top) ++ codes " below, " ++ decimal (rounded_top base top - top)
    ++ codes " above\ngranule  " ++ decimal (rounding_granule base top)
    ++ codes "\ncrrl     " ++ hex_of 16 (representable_length length) ++ codes "\ncram     " ++ hex_of 16 (alignment_mask length)
    ++ codes "\nword     " ++ hex_of 16 stored ++ codes " " ++ hex_of 16 (stored / 2 ^ 64) ++ codes "\n"

-- those of a capability: its window's first and last address, where an address lies, and the picture after its scale
unfoldable pub window_lines : ℕ → ℕ → Option ℕ → List ℕ
window_lines base length address =
    let e = rounding_exponent base (base + length) in
    let low = rounded_base base (base + length) in
    codes "window   " ++ hex_of 16 (window_first e low) ++ codes " " ++ hex_of 16 (window_last e low) ++ codes "\n"
    ++ address_line base length address
    ++ (codes "column   " ++ decimal (column_size e) ++ codes " bytes\npicture  " ++ picture (span_of base length) ++ codes "\n")

unfoldable pub bounds_text : ℕ → ℕ → Option ℕ → List ℕ
bounds_text base length address =
    request_lines base length ++ (if is_tagged (set base length) then window_lines base length address else [])
