-- What `asm` writes of a text, and how it tells its fault.
use Rattle.std.specs.Prelude.{◌≡◌, ◌⊎◌, ◌≤◌, ℕ, ◌+◌, ◌-◌, ◌/◌, ◌==◌, Bool, if◌then◌else◌, List, [], ◌∷◌, ◌++◌, map, length}
use Rattle.std.specs.Prelude.{take, decimal, Option, Some, None, IsSomeAnd}
use Rattle.std.specs.Borrow.{Bor}
use Rattle.image.specs.Grammar.{spelling}
use Rattle.image.specs.Image.{Image}
use Rattle.assembler.specs.declared.fault.AsmFault.{AsmFault}
use Rattle.assembler.specs.declared.further.FurtherFaults.{FurtherFaults}
use Rattle.assembler.specs.Further.{faults_after}
use Rattle.assembler.specs.Left.{IsFaultOf}
use Rattle.assembler.specs.Placed.{placed_lines}
use Rattle.assembler.specs.Places.{Symbols, symbols_of}
use Rattle.assembler.specs.Standing.{standing_of}
use Rattle.assembler.specs.Text.{text_fault, text_image}
use Rattle.fault_details.specs.Detail.{detail_of, line_at}
use Rattle.fault_details.specs.SourceLines.{source_lines}
use Rattle.symbols.specs.Symbols.{Symbol, symbol, table_text}
use Rattle.commands.specs.declared.fault.ProgramFault.{ProgramFault}
use Rattle.commands.specs.declared.fault.ProgramFault.TheVariants.{Asm}
use Rattle.commands.specs.declared.faulty_text.FaultyText.{FaultyText}
use Rattle.commands.specs.Files.{Text, File, Gains, Holds, IsTextFault, IsUnwritten, whole}

-- labels and their values, as a table has them
abbrev pub seen_labels : Symbols → List Symbol
seen_labels labels = map (λ label. symbol label.1 label.0) labels

-- the file of the labels, if one is named
abbrev pub table_file : Option (Bor Text) → Symbols → List File
table_file None labels = []
table_file (Some name) labels = whole name.now (table_text (seen_labels labels))

-- a file's name without its folders: what stands after the last slash, or the whole name
abbrev pub after_slashes : List ℕ → Text → List ℕ
after_slashes found [] = found
after_slashes found (b ∷ bs) = if b == 47 then after_slashes bs bs else after_slashes found bs

abbrev pub base_name : Text → List ℕ
base_name name = after_slashes name name

-- the line of each instruction that a text places, as a table of lines has them
abbrev pub own_lines : Text → List ℕ → List ℕ
own_lines name text = source_lines (base_name name) text (placed_lines text)

-- the file of the lines, if one is named
abbrev pub lines_file : Option (Bor Text) → List ℕ → List File
lines_file None lines = []
lines_file (Some name) lines = whole name.now lines

-- A correct text: its image is written to a file, the table of its labels to another if one is named, then that of its lines to a third if
-- one is, and no other file is.
abbrev pub Assembles : Text → Text → Option (Bor Text) → Option (Bor Text) → List ℕ → Option (List File) → Option (List File) → Type 0
Assembles input output symbols lines text old new =
    (text_fault text ≡ None)
    × Gains old new (whole output (spelling (text_image text)) ++ table_file symbols (symbols_of text)
    ++ lines_file lines (own_lines input text))

-- how many columns stand before a line where it is shown, after two blanks, the file's name, the line's number and two colons: one for
-- each byte of the name that begins a character in UTF-8
abbrev pub goes_on : ℕ → Bool
goes_on byte = byte / 64 == 2

abbrev pub columns : List ℕ → ℕ
columns [] = 0
columns (b ∷ bs) = (if goes_on b then 0 else 1) + columns bs

unfoldable pub indent_of : Text → ℕ → ℕ
indent_of name number = columns name + length (decimal number) + 5

-- what is told of the first fault: what was read of its line, unless there was no memory for that
abbrev pub IsRead : Text → List ℕ → AsmFault → List ℕ → Type 0
IsRead input text fault read =
    (read ≡ []) ⊎ (read ≡ detail_of fault.code (indent_of input fault.line) (standing_of text) (line_at fault.line text))

-- what is told of the lines after the first faulty one: 20 of their own faults, and how many more there are; nothing where there was no
-- memory, neither for these nor for the text (A10, which has line 0)
abbrev pub AreFurther : List ℕ → ℕ → FurtherFaults → Type 0
AreFurther text line told =
    ((told.shown.items ≡ []) × (told.left ≡ 0))
    ⊎ ((1 ≤ line) × (told.shown.items ≡ take 20 (faults_after line text)) × (told.left ≡ length (faults_after line text) - 20))

abbrev pub IsTold : Text → List ℕ → FaultyText → Type 0
IsTold input text told =
    (told.name.now ≡ input) × IsRead input text told.fault told.read.items × AreFurther text told.fault.line told.further

abbrev pub IsAsmFault : Text → List ℕ → AsmFault → ProgramFault → Type 0
IsAsmFault input text found (Asm told) = (told.fault ≡ found) × IsTold input text told
IsAsmFault input text found other = ⊥

-- a fault of a text, which is its first, unless there was no memory
abbrev pub IsFaultyText : Text → List ℕ → ProgramFault → Type 0
IsFaultyText input text (Asm told) = IsFaultOf (text_fault text) told.fault × IsTold input text told
IsFaultyText input text other = ⊥

-- Why an assembly isn't written: its image can't be; or that is, and the table of its labels that is named can't be.
pub data FailsToWrite (output : Text) (symbols : Option (Bor Text)) (image : Image) (old new : Option (List File)) (fault : ProgramFault)
    : Type 0 where
  at_image : IsUnwritten output old new fault → FailsToWrite output symbols image old new fault
  at_labels :
      (between : Option (List File)) → Gains old between (whole output (spelling image))
      → IsSomeAnd symbols (λ name. IsUnwritten name.now between new fault) → FailsToWrite output symbols image old new fault

-- Why a text isn't assembled: it can't be read; or it is faulty; or it is correct, and what it means can't be written; or that is, and the
-- table of its lines that is named can't be.
pub data FailsToAssemble (input output : Text) (symbols lines : Option (Bor Text)) (old new : Option (List File)) (fault : ProgramFault)
    : Type 0 where
  at_input : IsTextFault input old fault → new ≡ old → FailsToAssemble input output symbols lines old new fault
  at_text :
      (text : List ℕ) → Holds input old text → IsFaultyText input text fault → new ≡ old
      → FailsToAssemble input output symbols lines old new fault
  at_output :
      (text : List ℕ) → Holds input old text → text_fault text ≡ None → FailsToWrite output symbols (text_image text) old new fault
      → FailsToAssemble input output symbols lines old new fault
  at_lines :
      (text : List ℕ) (between : Option (List File)) → Holds input old text → text_fault text ≡ None
      → Gains old between (whole output (spelling (text_image text)) ++ table_file symbols (symbols_of text))
      → IsSomeAnd lines (λ name. IsUnwritten name.now between new fault) → FailsToAssemble input output symbols lines old new fault
