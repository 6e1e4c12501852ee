-- Tables of lines of a source: which line places the instruction at an address, one a line, as `asm --lines` writes them or `nm -l` prints
-- them.
use Rattle.std.specs.Prelude.{ℕ, ◌+◌, ◌==◌, ◌&&◌, ◌||◌, not, nat_le, Bool, true, if◌then◌else◌, List, [], ◌∷◌, ◌++◌, map, take, drop}
use Rattle.std.specs.Prelude.{length, Option, Some, None, codes}
use Rattle.std.specs.List.{list_all, list_any}
use Rattle.std.specs.Str.Parse.{digits_value}
use Rattle.symbols.specs.Symbols.{Symbol, has_address, lacks_address, lines_of, source_at}

abbrev pub source_line : ℕ → List ℕ → Symbol
source_line address text = record { address = address; name = text; is_line = true }

-- a byte as it is shown: a question mark for what is not printable ASCII
abbrev pub shown_byte : ℕ → ℕ
shown_byte b = if nat_le 32 b && nat_le b 126 then b else 63

abbrev pub shown_place : List ℕ → List ℕ
shown_place text = map shown_byte (take 240 text)

-- what stands after the last tab, or the whole text
abbrev pub after_tabs : List ℕ → List ℕ → List ℕ
after_tabs found [] = found
after_tabs found (b ∷ bs) = if b == 9 then after_tabs bs bs else after_tabs found bs

-- the place in the source that a line names after its address and a blank, as `mem.s:41: csd t0, 24(cs4)`; in what nm prints, `main.c:12`
-- after the name and a tab
unfoldable pub place_in : List ℕ → List ℕ
place_in line = after_tabs (drop 17 line) (drop 17 line)

-- nm names none for a symbol that it knows no line of
unfoldable pub is_place : List ℕ → Bool
is_place line = has_address line && list_any (λ b. b == 58) (place_in line)

unfoldable pub is_place_line : List ℕ → Bool
is_place_line line = has_address line || lacks_address line

-- the first line, counted from a number on, that is no line of a table
abbrev pub faulty_place_from : ℕ → List (List ℕ) → Option ℕ
faulty_place_from number [] = None
faulty_place_from number (line ∷ lines) = if is_place_line line then faulty_place_from (number + 1) lines else Some number

abbrev pub faulty_place : List ℕ → Option ℕ
faulty_place text = faulty_place_from 1 (lines_of text)

-- what a text without such a line says
unfoldable pub place_of : List ℕ → Symbol
place_of line = source_line (digits_value 16 (take 16 line)) (shown_place (place_in line))

abbrev pub places_in : List (List ℕ) → List Symbol
places_in [] = []
places_in (line ∷ lines) = if is_place line then place_of line ∷ places_in lines else places_in lines

abbrev pub places_of : List ℕ → List Symbol
places_of text = places_in (lines_of text)

-- what stands after an address where its line is known, as ` mem.s:41: csd t0, 24(cs4)`
abbrev pub after_label : Option (List ℕ) → List ℕ
after_label None = []
after_label (Some text) = codes " " ++ text

unfoldable pub source_of : List Symbol → ℕ → List ℕ
source_of symbols address = after_label (source_at symbols address)

-- what is shown of a line: printable ASCII, at most 240 bytes
abbrev pub is_shown_byte : ℕ → Bool
is_shown_byte b = nat_le 32 b && nat_le b 126

unfoldable pub is_shown : List ℕ → Bool
is_shown text = list_all is_shown_byte text && nat_le (length text) 240
