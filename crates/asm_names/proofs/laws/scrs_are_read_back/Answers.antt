use Rattle.asm_names.specs.NameLaws.{scr_named-scr_name}
use Rattle.asm_names.proofs.laws.scrs_are_read_back.Goals as goal

pub returns : goal.returns
returns c = scr_named-scr_name
