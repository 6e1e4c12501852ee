-- What stands after the text of an assembler's fault: the line with carets under what the fault is about, and what was read there.
use Rattle.std.specs.Prelude.{ℕ, zero, suc, ◌+◌, ◌-◌, not, ◌==◌, if◌then◌else◌, List, [], ◌++◌, map, length, take, max, replicate}
use Rattle.std.specs.Prelude.{slice_index, codes, decimal}
use Rattle.std.specs.List.{prefix_len, before_first, after_first}
use Rattle.std.specs.Option.{option_map_or}
use Rattle.asm_lines.specs.Text.{is_foreign, trimmed_end}
use Rattle.asm_lines.specs.Parts.{Part, parts_of}
use Rattle.assembler.specs.declared.fault.AsmCode.{AsmCode}
use Rattle.assembler.specs.declared.fault.AsmCode.TheVariants.{A8, A9, A10}
use Rattle.assembler.specs.declared.standing.Stopped.{Stopped}
use Rattle.assembler.specs.AtFault.{part_at_fault, reason_at_fault}
use Rattle.assembler.specs.Standing.{Standing}
use Rattle.texts.specs.Hex.{hex_of}
use Rattle.fault_details.specs.Reasons.{reason_text}

-- a line of a text, counted from 1
abbrev pub after_lines : ℕ → List ℕ → List ℕ
after_lines zero text = text
after_lines (suc count) text = after_lines count (after_first (λ b. b == 10) text)

abbrev pub line_at : ℕ → List ℕ → List ℕ
line_at number text = before_first (λ b. b == 10) (after_lines (number - 1) text)

-- what stands under a byte: a tab under a tab, and else a blank
abbrev pub under : ℕ → ℕ
under byte = if byte == 9 then 9 else 32

-- the line, which so many columns stand before; on the next line carets under the part, at least one
unfoldable pub underlined : ℕ → List ℕ → Part → List ℕ
underlined indent line p =
    trimmed_end line ++ codes "\n" ++ replicate indent 32 ++ map under (take p.before line) ++ replicate (max 1 (length p.text)) 94

-- the first byte that is no part of a text, and its column, counted from 1 (A8)
abbrev pub foreign_at : List ℕ → ℕ
foreign_at line = prefix_len (λ b. not (is_foreign b)) line

abbrev pub foreign_read : List ℕ → List ℕ
foreign_read line = codes "0x" ++ hex_of 2 (slice_index line (foreign_at line)) ++ codes " at column " ++ decimal (foreign_at line + 1)

-- what was read, by the fault's code; of a line with a foreign byte or of too many bytes the line isn't shown
unfoldable pub detail_of : AsmCode → ℕ → Standing → List ℕ → List ℕ
detail_of A8 indent s line = foreign_read line
detail_of A9 indent s line = decimal (length line) ++ codes " bytes"
detail_of A10 indent s line = []
detail_of code indent s line =
    underlined indent line (part_at_fault code s line)
    ++ option_map_or (reason_text (parts_of line).mnemonic.text) (reason_at_fault code s line) []

-- of a text that isn't assembled; nothing where there was no memory
abbrev pub detail_at : ℕ → List ℕ → Stopped → List ℕ
detail_at indent text s =
    option_map_or (λ standing. detail_of s.fault.code indent standing (line_at s.fault.line text)) s.standing []
