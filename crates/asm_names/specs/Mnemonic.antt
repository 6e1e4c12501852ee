-- Mnemonics: a row's name in each mode. Capability mode has second names for the rows whose rs1 or whose link is a capability there
-- (CHERI ISA version 9, CHERI-RISC-V, capability mode). Both names are taken in both modes.
use Rattle.std.specs.Cmp.Lexicographic.{pointwise}
use Rattle.std.specs.Prelude.{ℕ, Bool, ◌||◌, List, find, Option, if◌then◌else◌, nat_eq}
use Rattle.isa_rows.specs.declared.rows.Row.{Row}
use Rattle.isa_rows.specs.declared.table.TheConstants.{ROWS}
use Rattle.isa_rows.specs.Line.{line_of}
use Rattle.isa_rows.specs.Name.{name_of}

-- the row's name in capability mode
abbrev pub capability_name_of : Row → List ℕ
capability_name_of row = (line_of row).capability_name

-- the row's name in a mode (true: capability mode)
abbrev pub mnemonic : Bool → Row → List ℕ
mnemonic mode row = if mode then capability_name_of row else name_of row

-- a text is a row's name in one of the modes
abbrev pub is_named : List ℕ → Row → Bool
is_named text row = pointwise nat_eq text (name_of row) || pointwise nat_eq text (capability_name_of row)

-- the row that a text names, or none
abbrev pub row_named : List ℕ → Option Row
row_named text = find (is_named text) ROWS
