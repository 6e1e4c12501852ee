use Rattle.asm_names.specs.NameLaws.{register_named-register_name}
use Rattle.asm_names.proofs.laws.registers_are_read_back.Goals as goal

pub returns : goal.returns
returns c = register_named-register_name
