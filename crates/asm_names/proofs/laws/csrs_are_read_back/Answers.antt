use Rattle.asm_names.specs.NameLaws.{csr_named-csr_name}
use Rattle.asm_names.proofs.laws.csrs_are_read_back.Goals as goal

pub returns : goal.returns
returns c = csr_named-csr_name
