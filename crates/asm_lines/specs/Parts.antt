-- Where the parts of a line stand: its label, its mnemonic and its operands.
use Rattle.std.specs.Prelude.{ℕ, ◌+◌, ◌-◌, ◌==◌, List, [], ◌∷◌, length, Option, Some, None, option_map}
use Rattle.std.specs.List.{prefix_len, slice_split}
use Rattle.asm_lines.specs.Text.{is_blank, trimmed, uncommented, label_of, statement_text, mnemonic_of, operands_of}

-- a part of a line, and how many bytes of the line stand before it
pub record Part : Type 0 where
  pub before : ℕ
  pub text : List ℕ

abbrev pub part : ℕ → List ℕ → Part
part before text = record { before = before; text = text }

-- the part without the white space around it
abbrev pub trimmed_part : Part → Part
trimmed_part p = part (p.before + prefix_len is_blank p.text) (trimmed p.text)

-- what stands at the end of a part
abbrev pub ending : Part → List ℕ → Part
ending p rest = part (p.before + (length p.text - length rest)) rest

-- what stands between commas, from a place on
abbrev pub parts_from : ℕ → List (List ℕ) → List Part
parts_from before [] = []
parts_from before (t ∷ ts) = trimmed_part (part before t) ∷ parts_from (before + length t + 1) ts

abbrev pub parts_between : Part → List Part
parts_between p = parts_from p.before (slice_split (λ c. c == 44) p.text)

-- the operands; no text is no operand
abbrev pub parts_in : ℕ → List ℕ → List Part
parts_in before [] = []
parts_in before (b ∷ bs) = parts_between (part before (b ∷ bs))

abbrev pub operand_parts : Part → List Part
operand_parts p = parts_in p.before p.text

-- the operands of what follows a comma, if one does
abbrev pub parts_left : Option Part → List Part
parts_left (Some p) = parts_between p
parts_left None = []

-- the parts of a line; its operands with the commas between them
pub record Parts : Type 0 where
  pub label : Option Part
  pub mnemonic : Part
  pub operands : Part

abbrev pub statement_parts : Option Part → Part → Parts
statement_parts label p = record {
  label = label;
  mnemonic = part p.before (mnemonic_of p.text);
  operands = ending p (operands_of p.text);
}

abbrev pub parts_of_text : Part → Parts
parts_of_text p = statement_parts (option_map (part p.before) (label_of p.text)) (ending p (statement_text p.text))

unfoldable pub parts_of : List ℕ → Parts
parts_of line = parts_of_text (trimmed_part (part 0 (uncommented line)))
