use Rattle.asm_names.specs.NameLaws.{row_named-mnemonic}
use Rattle.asm_names.proofs.laws.rows_are_read_back.Goals as goal

pub returns : goal.returns
returns c = row_named-mnemonic
