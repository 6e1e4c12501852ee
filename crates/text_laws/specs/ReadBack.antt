-- What the text of a word says when an assembler reads it: the word again.
use Rattle.std.specs.Prelude.{◌≡◌, ℕ, Bool, true, false, ◌||◌, if◌then◌else◌, pos, List, [], ◌∷◌, ◌++◌, Option, Some, None, Ok, codes}
use Rattle.std.specs.Int.{w64, cast_signed}
use Rattle.isa_rows.specs.declared.operands.Insn.{Insn}
use Rattle.isa_rows.specs.Decoded.{insn_of}
use Rattle.isa_rows.specs.declared.slots.Slot.{Slot}
use Rattle.isa_rows.specs.declared.slots.Slot.TheVariants.{Target}
use Rattle.asm_names.specs.Slots.{slots_of}
use Rattle.asm_lines.specs.Text.{here_name, pieces_of}
use Rattle.asm_lines.specs.Number.{Expression, expression, expression_of}
use Rattle.asm_lines.specs.Operand.{wrapped}
use Rattle.asm_lines.specs.Statement.{Statement, instruction, contents, row, values}
use Rattle.asm_lines.specs.Line.{Line, line_meaning}
use Rattle.texts.specs.Hex.{hex_of}
use Rattle.disassembler.specs.Shown.{shown_word}

abbrev pub is_target : Slot → Bool
is_target (Target bits) = true
is_target _ = false

-- whether operands have an address to jump to among them
abbrev pub has_target : List Slot → Bool
has_target [] = false
has_target (s ∷ ss) = is_target s || has_target ss

-- an address as the statement's own place with the distance to it added
abbrev pub distance_to : ℕ → Expression
distance_to imm = expression (Some here_name) (cast_signed w64 imm)

-- The statement of an instruction. Where it is written with an address to jump to, its distance is known only when it is placed.
abbrev pub statement_of : Insn → Statement
statement_of i =
    instruction (if has_target (slots_of i.row) then row (record i { imm = 0 }) (Some (distance_to i.imm)) else row i None)

-- the number that a word is written as where it is no row
abbrev pub word_text : ℕ → List ℕ
word_text word = codes "0x" ++ hex_of 8 word

abbrev pub statement_of_word : ℕ → Option Insn → Statement
statement_of_word word (Some i) = statement_of i
statement_of_word word None = contents (values 4 (word_text word))

-- a line without a label and without a fault
abbrev pub sound_line : Statement → Line
sound_line s = record { label = None; statement = Some s; fault = None }

-- A line of the text of a word states the word's instruction, or else the one value of four bytes that is the word.
pub record ReadsBack (mode : Bool) (word : ℕ) : Type 0 where
  pub line : line_meaning (shown_word mode word) ≡ sound_line (statement_of_word word (insn_of word))
  pub distance : (i : Insn) → insn_of word ≡ Some i → wrapped (cast_signed w64 i.imm) ≡ i.imm
  pub one_value : pieces_of (word_text word) ≡ word_text word ∷ []
  pub value : expression_of (word_text word) ≡ Ok (expression None (pos word))
