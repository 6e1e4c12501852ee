-- Which line of a text each placed instruction comes from.
use Rattle.base.specs.Ram.{ram_base}
use Rattle.std.specs.Prelude.{ℕ, ◌+◌, List, [], ◌∷◌, ◌++◌, Option, Some, None}
use Rattle.asm_lines.specs.Line.{Line}
use Rattle.asm_lines.specs.Statement.{Statement, Instruction, instruction, row, load}
use Rattle.assembler.specs.declared.placed.PlacedLine.{PlacedLine}
use Rattle.assembler.specs.Places.{lines_of, end_after}

abbrev pub placed_at : ℕ → ℕ → PlacedLine
placed_at line place = record { place = place; line = line }

-- the instructions that one places: itself, and after it the second of the two that load a value
abbrev pub instruction_lines : ℕ → ℕ → Instruction → List PlacedLine
instruction_lines line place (row insn target) = placed_at line place ∷ []
instruction_lines line place (load capability rd value) = placed_at line place ∷ placed_at line (place + 4) ∷ []

abbrev pub statement_lines : ℕ → ℕ → Option Statement → List PlacedLine
statement_lines line place (Some (instruction i)) = instruction_lines line place i
statement_lines line place other = []

-- of lines that are counted from a number on, of which the first stands at a place
abbrev pub placed_from : ℕ → ℕ → List Line → List PlacedLine
placed_from line place [] = []
placed_from line place (l ∷ ls) = statement_lines line place l.statement ++ placed_from (line + 1) (end_after l.statement place) ls

-- each placed instruction of a text, in order
abbrev pub placed_lines : List ℕ → List PlacedLine
placed_lines text = placed_from 1 ram_base (lines_of text)
