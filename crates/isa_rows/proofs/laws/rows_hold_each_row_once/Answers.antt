use Rattle.std.proofs.Common.{arith}
use Rattle.isa_rows.specs.declared.table.TheConstants.{ROWS}
use Rattle.isa_rows.specs.RowLaws.{number_of, numbered-at, all_numbered, ROWS-number_of}
use Rattle.isa_rows.proofs.laws.rows_hold_each_row_once.Goals as goal

pub returns : goal.returns
returns c =
    λ row. (number_of row, ROWS-number_of row, λ j e. omega (arith, numbered-at ROWS 0 j row all_numbered e))
