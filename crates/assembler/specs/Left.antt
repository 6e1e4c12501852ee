-- What is left of a text, after the line feed of the line that was read last.
use Rattle.std.specs.Prelude.{◌≡◌, ◌⊎◌, ℕ, ◌+◌, List, [], length, Option, Some, None}
use Rattle.std.specs.Borrow.{Bor}
use Rattle.asm_lines.specs.Line.{Line}
use Rattle.assembler.specs.declared.fault.AsmCode.{AsmCode}
use Rattle.assembler.specs.declared.fault.AsmCode.TheVariants.{A10}
use Rattle.assembler.specs.declared.fault.AsmFault.{AsmFault}
use Rattle.assembler.specs.declared.standing.Stopped.{Stopped}
use Rattle.assembler.specs.Places.{lines_of}
use Rattle.assembler.specs.Standing.{Standing}

abbrev pub lines_left : Option (Bor (List ℕ)) → List Line
lines_left None = []
lines_left (Some rest) = lines_of rest.now

-- a number that falls from line to line
abbrev pub left : Option (Bor (List ℕ)) → ℕ
left None = 0
left (Some rest) = length rest.now + 1

-- no memory, whose line is 0, or the fault that there is
abbrev pub IsFaultOf : Option (ℕ × AsmCode) → AsmFault → Type 0
IsFaultOf fault f = ((f.code ≡ A10) × (f.line ≡ 0)) ⊎ (fault ≡ Some (f.line, f.code))

-- with a fault comes where the text stands at it, unless there was no memory
abbrev pub IsStoppedAt : Standing → Stopped → Type 0
IsStoppedAt standing s = ((s.fault.code ≡ A10) × (s.standing ≡ None)) ⊎ (s.standing ≡ Some standing)
