-- The mnemonic of each row in integer mode, in lower case.
use Rattle.std.specs.Prelude.{ℕ, List}
use Rattle.isa_rows.specs.declared.rows.Row.{Row}
use Rattle.isa_rows.specs.Line.{line_of}

abbrev pub name_of : Row → List ℕ
name_of row = (line_of row).name
