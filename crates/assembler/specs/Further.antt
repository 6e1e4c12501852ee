-- The further faults of a text: after its first faulty line, what each line has wrong by itself, whatever stands in the others.
use Rattle.std.specs.Prelude.{ℕ, ◌+◌, List, [], ◌∷◌, ◌++◌, drop, Option, Some, None}
use Rattle.asm_lines.specs.declared.fault.LineFault.{LineFault}
use Rattle.asm_lines.specs.declared.fault.LineFault.TheVariants as own
use Rattle.asm_lines.specs.Line.{Line}
use Rattle.assembler.specs.declared.fault.AsmCode.{AsmCode}
use Rattle.assembler.specs.declared.fault.AsmCode.TheVariants.{A1, A2, A3, A8, A9}
use Rattle.assembler.specs.declared.fault.AsmFault.{AsmFault}
use Rattle.assembler.specs.Places.{lines_of}

abbrev pub code_of : LineFault → AsmCode
code_of own.A1 = A1
code_of own.A2 = A2
code_of own.A3 = A3
code_of own.A8 = A8
code_of own.A9 = A9

abbrev pub own_fault : ℕ → Option LineFault → List AsmFault
own_fault number None = []
own_fault number (Some fault) = record { line = number; code = code_of fault } ∷ []

-- in order, the lines counted from a number on
abbrev pub own_faults : ℕ → List Line → List AsmFault
own_faults number [] = []
own_faults number (l ∷ ls) = own_fault number l.fault ++ own_faults (number + 1) ls

-- those of the lines after one
unfoldable pub faults_after : ℕ → List ℕ → List AsmFault
faults_after line text = own_faults (line + 1) (drop line (lines_of text))
