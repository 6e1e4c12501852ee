-- Where a text stands at its first faulty line: what the lines before it set and place, and the labels of the whole text.
use Rattle.std.specs.Prelude.{ℕ, if◌then◌else◌, List, [], ◌∷◌, is_some}
use Rattle.asm_lines.specs.Line.{Line}
use Rattle.assembler.specs.Places.{Symbols, lines_of, symbols_of}
use Rattle.assembler.specs.Faults.{Assembled, line_fault, assembled_after, opening}

pub record Standing : Type 0 where
  pub symbols : Symbols
  pub assembled : Assembled

-- what the lines before the first faulty one set and place; all lines, where none is faulty
abbrev pub before_fault : Symbols → Assembled → List Line → Assembled
before_fault symbols s [] = s
before_fault symbols s (l ∷ ls) =
    if is_some (line_fault symbols s l) then s else before_fault symbols (assembled_after symbols s l) ls

abbrev pub standing_in : Symbols → List Line → Standing
standing_in symbols lines = record { symbols = symbols; assembled = before_fault symbols opening lines }

abbrev pub standing_of : List ℕ → Standing
standing_of text = standing_in (symbols_of text) (lines_of text)
