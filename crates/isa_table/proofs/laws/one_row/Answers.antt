use Rattle.isa_table.proofs.WordInsn.{same_row}
use Rattle.isa_table.proofs.laws.one_row.Goals as goal

pub returns : goal.returns
returns c = same_row
