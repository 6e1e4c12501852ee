-- The words of a line, and numbers between two, as commands and policies are written.
use Rattle.std.specs.Prelude.{ℕ, not, ◌==◌, ℤ, pos, List, length, filter, Option, Some, None, Result, Ok, Err}
use Rattle.std.specs.List.{slice_split}
use Rattle.asm_lines.specs.declared.fault.LineFault.{LineFault}
use Rattle.asm_lines.specs.Text.{is_blank}
use Rattle.asm_lines.specs.Number.{number_of}
use Rattle.asm_lines.specs.Operand.{ranged, wrapped}

-- the words of a line: what stands between spaces, tabs and carriage returns
abbrev pub words_of : List ℕ → List (List ℕ)
words_of line = filter (λ word. not (length word == 0)) (slice_split is_blank line)

-- a number between two, both included, in the assembler's form
abbrev pub number_between : ℕ → ℕ → List ℕ → Result ℤ LineFault
number_between low high text = ranged (pos low) (pos high) (number_of text)

-- a number that was read
abbrev pub read_number : Result ℤ LineFault → Option ℕ
read_number (Ok n) = Some (wrapped n)
read_number (Err fault) = None
