-- The lines of a text that place instructions: `0000000080001014 mem.s:41: csd t0, 24(cs4)`.
use Rattle.std.specs.Prelude.{ℕ, ◌==◌, ◌&&◌, nat_le, if◌then◌else◌, List, [], ◌∷◌, ◌++◌, map, take, codes, decimal}
use Rattle.std.specs.List.{flat_map}
use Rattle.asm_lines.specs.Parts.{Parts, parts_of}
use Rattle.assembler.specs.declared.placed.PlacedLine.{PlacedLine}
use Rattle.fault_details.specs.Detail.{line_at}
use Rattle.texts.specs.Hex.{hex_of}

-- a byte as it is shown: a blank for a tab, and a question mark for what is not printable ASCII
abbrev pub shown_byte : ℕ → ℕ
shown_byte b = if b == 9 then 32 else (if nat_le 32 b && nat_le b 126 then b else 63)

-- at most 100 bytes
abbrev pub shown : List ℕ → List ℕ
shown text = map shown_byte (take 100 text)

-- the instruction of a line: its mnemonic and, where it has some, a blank and its operands
abbrev pub after_mnemonic : List ℕ → List ℕ
after_mnemonic [] = []
after_mnemonic (b ∷ bs) = codes " " ++ shown (b ∷ bs)

abbrev pub instruction_in : Parts → List ℕ
instruction_in parts = shown parts.mnemonic.text ++ after_mnemonic parts.operands.text

-- where a line stands, and its instruction
abbrev pub source_place : List ℕ → ℕ → List ℕ → List ℕ
source_place name number line =
    shown name ++ codes ":" ++ decimal number ++ codes ": " ++ instruction_in (parts_of line)

abbrev pub line_of : List ℕ → PlacedLine → List ℕ → List ℕ
line_of name placed line = hex_of 16 placed.place ++ codes " " ++ source_place name placed.line line ++ codes "\n"

abbrev pub source_line : List ℕ → List ℕ → PlacedLine → List ℕ
source_line name text placed = line_of name placed (line_at placed.line text)

-- a line for each placed instruction, in order
abbrev pub source_lines : List ℕ → List ℕ → List PlacedLine → List ℕ
source_lines name text placed = flat_map (source_line name text) placed
