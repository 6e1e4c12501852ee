use Rattle.isa_table.proofs.laws.encoded_again.Goals as goal

pub returns : goal.returns
returns c = λ insn word answer f e d. d.only insn e.value
