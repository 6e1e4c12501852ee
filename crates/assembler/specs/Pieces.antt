-- A text statement by statement: what each places and where, how many bytes there are of a kind, and what labels are worth.
use Rattle.std.specs.Prelude.{◌≡◌, ℕ, ◌+◌, Bool, cond, List, [], ◌∷◌, Option, Some, None, IfSome}
use Rattle.base.specs.Ram.{ram_base}
use Rattle.image.specs.Image.{Section}
use Rattle.asm_lines.specs.Statement.{Statement}
use Rattle.asm_lines.specs.Line.{Line}
use Rattle.assembler.specs.Places.{Symbols, lines_of, symbols_of, value_in, end_after}
use Rattle.assembler.specs.Bytes.{bytes_at}
use Rattle.assembler.specs.Faults.{empty_at}

-- the bytes that a line's statement places, and where: without one, none
abbrev pub piece_of : Symbols → ℕ → Option Statement → Section
piece_of symbols place None = empty_at place
piece_of symbols place (Some statement) = record { address = place; bytes = bytes_at symbols place statement }

-- a piece for each line, of which the first stands at this place
abbrev pub pieces_from : Symbols → ℕ → List Line → List Section
pieces_from symbols place [] = []
pieces_from symbols place (l ∷ ls) = piece_of symbols place l.statement ∷ pieces_from symbols (end_after l.statement place) ls

abbrev pub text_pieces : List ℕ → List Section
text_pieces bytes = pieces_from (symbols_of bytes) ram_base (lines_of bytes)

-- how many of these bytes, of which the first stands at this address, pass a test of address and byte
abbrev pub count_from : (ℕ → ℕ → Bool) → ℕ → List ℕ → ℕ
count_from test address [] = 0
count_from test address (b ∷ bs) = cond (test address b) 1 0 + count_from test (address + 1) bs

-- how many bytes of these sections, or pieces, do
abbrev pub count_bytes : (ℕ → ℕ → Bool) → List Section → ℕ
count_bytes test [] = 0
count_bytes test (s ∷ ss) = count_from test s.address s.bytes + count_bytes test ss

-- each label of these lines, of which the first stands at this place, is worth the place of its line
abbrev pub AreWorthTheirPlaces : Symbols → ℕ → List Line → Type 0
AreWorthTheirPlaces symbols place [] = Unit {0}
AreWorthTheirPlaces symbols place (l ∷ ls) =
    IfSome l.label (λ name. value_in symbols name ≡ Some place) × AreWorthTheirPlaces symbols (end_after l.statement place) ls
