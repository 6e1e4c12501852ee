-- What one line of a text says: a label, a statement, and the first fault that the line alone decides.
use Rattle.std.specs.Prelude.{◌≡◌, ℕ, nat_lt, if◌then◌else◌, List, [], ◌∷◌, length, not, Option, Some, None}
use Rattle.std.specs.List.{prefix_len}
use Rattle.isa_rows.specs.declared.formats.Format.{Format}
use Rattle.isa_rows.specs.declared.formats.Format.TheVariants.{Branch}
use Rattle.isa_rows.specs.declared.operands.Insn.{Insn}
use Rattle.isa_rows.specs.Line.{line_of}
use Rattle.isa_rows.specs.Insn.{Fits}
use Rattle.isa_rows.specs.Operands.{IsBranchOffset, IsJumpOffset}
use Rattle.asm_lines.specs.declared.fault.LineFault.{LineFault}
use Rattle.asm_lines.specs.declared.fault.LineFault.TheVariants.{A8, A9}
use Rattle.asm_lines.specs.Text.{is_foreign, trimmed, uncommented, label_of, statement_text, mnemonic_of, operands_of}
use Rattle.asm_lines.specs.Number.{Expression}
use Rattle.asm_lines.specs.Statement.{Statement, instruction, row, Said, said, said_by}

pub record Line : Type 0 where
  pub label : Option (List ℕ)
  pub statement : Option Statement
  pub fault : Option LineFault

abbrev pub labelled : Option (List ℕ) → Said → Line
labelled label s = record { label = label; statement = s.statement; fault = s.fault }

-- a line whose bytes are in order, by its label and what follows
abbrev pub line_said : Option (List ℕ) → List ℕ → Line
line_said label [] = labelled label (said None None)
line_said label (b ∷ bs) = labelled label (said_by (mnemonic_of (b ∷ bs)) (operands_of (b ∷ bs)))

abbrev pub line_of_text : List ℕ → Line
line_of_text line_text = line_said (label_of line_text) (statement_text line_text)

-- A byte that is not ASCII, then a line that is too long, leave no label and no statement. The length counts all bytes but the line feed.
unfoldable pub line_meaning : List ℕ → Line
line_meaning line =
    if nat_lt (prefix_len (λ b. not (is_foreign b)) line) (length line) then labelled None (said None (Some A8))
    else (if nat_lt 255 (length line) then labelled None (said None (Some A9)) else line_of_text (trimmed (uncommented line)))

-- the number that a row's target gives: how far a branch or a jump goes
abbrev pub IsTargetOffset : Format → ℕ → Type 0
IsTargetOffset Branch n = IsBranchOffset n
IsTargetOffset other n = IsJumpOffset n

-- Some word is the instruction that a line without a fault says; where it is written with a target, whatever the distance to it is.
abbrev pub FitsAt : Insn → Option Expression → Type 0
FitsAt i None = Fits i
FitsAt i (Some e) = (distance : ℕ) → IsTargetOffset (line_of i.row).format distance → Fits (record i { imm = distance })

abbrev pub RowFits : Line → Type 0
RowFits l = (i : Insn) (target : Option Expression) → l.statement ≡ Some (instruction (row i target)) → l.fault ≡ None → FitsAt i target
