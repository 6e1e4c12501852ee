use Rattle.std.proofs.Common.{◌≡◌, true, refl}
use Rattle.isa_rows.specs.declared.rows.Row.{Row}
use Rattle.isa_rows.specs.declared.rows.Row.TheVariants.{Lui}
use Rattle.isa_rows.specs.Kind.{kind_of}
use Rattle.isa_rows.specs.Line.{line_of}
use Rattle.isa_rows.specs.Transfers.{is_moved_by}
use Rattle.isa_rows.proofs.laws.rows_move_by_kind.Goals as goal

moved : (row : Row) → is_moved_by (kind_of row) (line_of row).transfer ≡ true
unfolding line_of
moved Lui = refl
moved _ = refl

pub returns : goal.returns
returns c = moved
