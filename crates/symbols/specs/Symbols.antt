-- Tables of symbols: names and the addresses that they stand for, one a line, and what is looked up in them.
use Rattle.std.specs.Prelude.{◌≡◌, ℕ, ◌<◌, ◌^◌, Bool, not, ◌&&◌, ◌||◌, ◌==◌, nat_le, nat_eq, if◌then◌else◌, List, [], ◌∷◌, ◌++◌, length}
use Rattle.std.specs.Prelude.{take}
use Rattle.std.specs.Prelude.{drop, ◌+◌, ◌-◌, true, false, nat_lt, slice_index, Option, Some, None, codes}
use Rattle.std.specs.List.{prefix_len, starts_with, flat_map}
use Rattle.std.specs.Char.{digit_value}
use Rattle.std.specs.Option.{option_or}
use Rattle.std.specs.Cmp.Lexicographic.{pointwise}
use Rattle.std.specs.Str.Parse.{digits_value}
use Rattle.asm_lines.specs.Text.{is_name, is_dot}
use Rattle.asm_lines.specs.Words.{number_between, read_number}
use Rattle.texts.specs.Hex.{hex_of}

-- An entry of a table: a label and its address; or a line of a source and the address of an instruction that it places.
pub record Symbol : Type 0 where
  pub address : ℕ
  pub name : List ℕ
  pub is_line : Bool

abbrev pub symbol : ℕ → List ℕ → Symbol
symbol address name = record { address = address; name = name; is_line = false }

-- the labels of a table, and its lines of sources
abbrev pub labels_in : List Symbol → List Symbol
labels_in [] = []
labels_in (s ∷ ss) = if s.is_line then labels_in ss else s ∷ labels_in ss

abbrev pub lines_in : List Symbol → List Symbol
lines_in [] = []
lines_in (s ∷ ss) = if s.is_line then s ∷ lines_in ss else lines_in ss

-- a name that a line of assembly can define: with its colon it has at most the 255 bytes of a line
unfoldable pub is_label : List ℕ → Bool
is_label name = is_name name && (not (is_dot name) && nat_le (length name) 254)

-- what stands between line feeds; after the last one nothing, or a line that lacks its own
abbrev pub onto_first : ℕ → List (List ℕ) → List (List ℕ)
onto_first b [] = (b ∷ []) ∷ []
onto_first b (line ∷ lines) = (b ∷ line) ∷ lines

abbrev pub lines_of : List ℕ → List (List ℕ)
lines_of [] = []
lines_of (b ∷ bs) = if b == 10 then [] ∷ lines_of bs else onto_first b (lines_of bs)

-- a line of a table: 16 hexadecimal digits of the address, a blank, the name; in what nm prints a letter and a blank before the name
abbrev pub is_hexadecimal_digit : ℕ → Bool
is_hexadecimal_digit b = nat_lt (digit_value b) 16

unfoldable pub has_address : List ℕ → Bool
has_address line = (prefix_len is_hexadecimal_digit line == 16) && (slice_index line 16 == 32)

unfoldable pub has_letter : List ℕ → Bool
has_letter line = slice_index line 18 == 32

unfoldable pub name_of : List ℕ → List ℕ
name_of line = drop (if has_letter line then 19 else 17) line

unfoldable pub is_symbol : List ℕ → Bool
is_symbol line = has_address line && is_label (name_of line)

unfoldable pub symbol_of : List ℕ → Symbol
symbol_of line = symbol (digits_value 16 (take 16 line)) (name_of line)

-- nm's lines that say no symbol: of a name that is no label, and of one without an address, for which 16 blanks stand
unfoldable pub lacks_address : List ℕ → Bool
lacks_address line = starts_with nat_eq line (codes "                 ")

unfoldable pub is_line : List ℕ → Bool
is_line line = is_symbol line || (has_letter line && (has_address line || lacks_address line))

-- the first line, counted from a number on, that is no line of a table
abbrev pub faulty_from : ℕ → List (List ℕ) → Option ℕ
faulty_from number [] = None
faulty_from number (line ∷ lines) = if is_line line then faulty_from (number + 1) lines else Some number

abbrev pub faulty_line : List ℕ → Option ℕ
faulty_line text = faulty_from 1 (lines_of text)

-- what a text without such a line says
abbrev pub symbols_in : List (List ℕ) → List Symbol
symbols_in [] = []
symbols_in (line ∷ lines) = if is_symbol line then symbol_of line ∷ symbols_in lines else symbols_in lines

abbrev pub symbols_of : List ℕ → List Symbol
symbols_of text = symbols_in (lines_of text)

-- what a line can say: an address of 64 bits and a label
pub record HasLine (s : Symbol) : Type 0 where
  pub address : s.address < 2 ^ 64
  pub name : is_label s.name ≡ true
  pub label : s.is_line ≡ false

-- symbols as lines
abbrev pub symbol_line : Symbol → List ℕ
symbol_line s = hex_of 16 s.address ++ codes " " ++ s.name ++ codes "\n"

abbrev pub table_text : List Symbol → List ℕ
table_text symbols = flat_map symbol_line symbols

-- ---- entries of one kind

-- the names of an address, in their order; the first of them, and the first address of a name
abbrev pub names_among : List Symbol → ℕ → List (List ℕ)
names_among [] address = []
names_among (s ∷ ss) address = if s.address == address then s.name ∷ names_among ss address else names_among ss address

abbrev pub name_among : List Symbol → ℕ → Option (List ℕ)
name_among [] address = None
name_among (s ∷ ss) address = if s.address == address then Some s.name else name_among ss address

abbrev pub address_among : List Symbol → List ℕ → Option ℕ
address_among [] name = None
address_among (s ∷ ss) name = if pointwise nat_eq s.name name then Some s.address else address_among ss name

-- the one at an address or nearest below it; of several at one address the first
abbrev pub is_not_below : Symbol → Option Symbol → Bool
is_not_below s None = true
is_not_below s (Some other) = nat_le other.address s.address

abbrev pub nearest_among : List Symbol → ℕ → Option Symbol
nearest_among [] address = None
nearest_among (s ∷ ss) address =
    if nat_le s.address address && is_not_below s (nearest_among ss address) then Some s else nearest_among ss address

-- ---- the labels of a table

abbrev pub names_at : List Symbol → ℕ → List (List ℕ)
names_at symbols address = names_among (labels_in symbols) address

abbrev pub name_at : List Symbol → ℕ → Option (List ℕ)
name_at symbols address = name_among (labels_in symbols) address

abbrev pub address_of : List Symbol → List ℕ → Option ℕ
address_of symbols name = address_among (labels_in symbols) name

-- an address as it is written: a number of 64 bits, and where the text is not a number, the first address of the label of that name
abbrev pub address_in : List Symbol → List ℕ → Option ℕ
address_in symbols text = option_or (read_number (number_between 0 (2 ^ 64 - 1) text)) (address_of symbols text)

-- the label at an address or nearest below it; of several at one address the first
abbrev pub nearest : List Symbol → ℕ → Option Symbol
nearest symbols address = nearest_among (labels_in symbols) address

-- ---- its lines of sources

-- the first line that places an instruction at an address
abbrev pub source_at : List Symbol → ℕ → Option (List ℕ)
source_at symbols address = name_among (lines_in symbols) address
