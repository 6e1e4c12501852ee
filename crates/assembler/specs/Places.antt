-- Where the statements of a text stand, and what its labels are worth. Places are whole numbers and exist in faulty texts too.
use Rattle.base.specs.Ram.{ram_base}
use Rattle.std.specs.Prelude.{ℕ, ◌+◌, ◌*◌, nat_eq, if◌then◌else◌, List, [], ◌∷◌, ◌++◌, map, length, Option, Some, None}
use Rattle.std.specs.Prelude.{is_some, ◌==◌}
use Rattle.std.specs.List.{slice_split}
use Rattle.std.specs.Cmp.Lexicographic.{pointwise}
use Rattle.asm_lines.specs.Text.{pieces_of}
use Rattle.asm_lines.specs.declared.parsed.Directive.{Directive}
use Rattle.asm_lines.specs.declared.parsed.Directive.TheVariants.{Zeros, Values, Ascii, Capability}
use Rattle.asm_lines.specs.Fills.{row_of}
use Rattle.asm_lines.specs.Statement.{Statement, instruction, setting, origin, contents, Instruction, row, load, Data, item, text_bytes}
use Rattle.asm_lines.specs.Line.{Line, line_meaning}

-- the lines of a text: what stands between line feeds (after the last one an empty line, which says nothing)
abbrev pub lines_of : List ℕ → List Line
lines_of bytes = map line_meaning (slice_split (λ b. b == 10) bytes)

-- labels and their values, in order of definition
abbrev pub Symbols : Type 0
Symbols = List (List ℕ × ℕ)

abbrev pub value_in : Symbols → List ℕ → Option ℕ
value_in [] name = None
value_in (s ∷ ss) name = if pointwise nat_eq name s.0 then Some s.1 else value_in ss name

-- the number of bytes that a statement at a place takes
abbrev pub instruction_size : Instruction → ℕ
instruction_size (row i target) = 4
instruction_size (load capability rd value) = 8

-- the zeros that a directive places, by its place and its number
abbrev pub zero_count : Directive → ℕ → ℕ → ℕ
zero_count (Zeros f) place n = (row_of f).count place n
zero_count Capability place n = 16
zero_count other place n = 0

abbrev pub data_size : Data → ℕ → ℕ
data_size (item (Values size) n operands) place = size * length (pieces_of operands)
data_size (item Ascii n between) place = length (text_bytes between)
data_size (item d n operands) place = zero_count d place n

unfoldable pub size_at : Statement → ℕ → ℕ
size_at (instruction i) place = instruction_size i
size_at (setting s) place = 0
size_at (origin n) place = 0
size_at (contents d) place = data_size d place

-- where a statement that stands at a place ends
unfoldable pub end_of : Statement → ℕ → ℕ
end_of (origin n) place = n
end_of s place = place + size_at s place

-- the place of the next statement, and the labels so far
pub record Places : Type 0 where
  pub place : ℕ
  pub symbols : Symbols

-- a label that no earlier line defines is worth its line's place
abbrev pub with_label : Option (List ℕ) → ℕ → Symbols → Symbols
with_label None place symbols = symbols
with_label (Some name) place symbols = if is_some (value_in symbols name) then symbols else symbols ++ (name, place) ∷ []

abbrev pub end_after : Option Statement → ℕ → ℕ
end_after None place = place
end_after (Some s) place = end_of s place

abbrev pub places_after : Line → Places → Places
places_after l p = record { place = end_after l.statement p.place; symbols = with_label l.label p.place p.symbols }

abbrev pub all_places : List Line → Places → Places
all_places [] p = p
all_places (l ∷ ls) p = all_places ls (places_after l p)

-- a text begins at the beginning of RAM
abbrev pub opening_places : Places
opening_places = record { place = ram_base; symbols = [] }

abbrev pub symbols_of : List ℕ → Symbols
symbols_of bytes = (all_places (lines_of bytes) opening_places).symbols
