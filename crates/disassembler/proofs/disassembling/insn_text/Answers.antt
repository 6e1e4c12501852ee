use Rattle.std.proofs.Common.{rules}
use Rattle.disassembler.proofs.disassembling.insn_text.Goals as goal

pub returns : goal.returns
returns c = search rules
