use Rattle.isa_rows.specs.InsnLaws.{insn_word-IsInsn}
use Rattle.assembler.proofs.bytes.word_of.Goals as goal

pub returns : goal.returns
returns c = insn_word-IsInsn _ _ c.encode.ensures.value
