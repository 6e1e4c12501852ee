-- What a table of symbols adds to a listing: labels before the words at their addresses, and the place in names after a branch or jal.
use Rattle.std.specs.Prelude.{ℕ, ◌+◌, ◌%◌, ◌^◌, Bool, true, false, if◌then◌else◌, List, [], ◌++◌, Option, Some, None, codes}
use Rattle.std.specs.List.{flat_map}
use Rattle.isa_rows.specs.declared.formats.Format.{Format}
use Rattle.isa_rows.specs.declared.formats.Format.TheVariants.{Branch, Jump}
use Rattle.isa_rows.specs.declared.operands.Insn.{Insn}
use Rattle.isa_rows.specs.Decoded.{insn_of}
use Rattle.isa_rows.specs.Line.{line_of}
use Rattle.symbols.specs.Symbols.{Symbol, names_at}
use Rattle.symbols.specs.Labels.{label_of}

-- the labels of an address, a line each, in the table's order
abbrev pub label_line : List ℕ → List ℕ
label_line name = name ++ codes ":\n"

unfoldable pub label_lines : List Symbol → ℕ → List ℕ
label_lines symbols address = flat_map label_line (names_at symbols address)

-- where a branch or jal at an address leads
abbrev pub leads : Format → Bool
leads Branch = true
leads Jump = true
leads other = false

abbrev pub target_in : ℕ → Option Insn → Option ℕ
target_in address (Some i) = if leads (line_of i.row).format then Some ((address + i.imm) % 2 ^ 64) else None
target_in address None = None

unfoldable pub target_of : ℕ → ℕ → Option ℕ
target_of address word = target_in address (insn_of word)

abbrev pub target_text : List Symbol → Option ℕ → List ℕ
target_text symbols None = []
target_text symbols (Some target) = label_of symbols target

-- where there is a table: what stands before an address, and after a word there
abbrev pub before : Option (List Symbol) → ℕ → List ℕ
before None address = []
before (Some symbols) address = label_lines symbols address

abbrev pub after : Option (List Symbol) → ℕ → ℕ → List ℕ
after None address word = []
after (Some symbols) address word = target_text symbols (target_of address word)
