use Rattle.std.proofs.Common.{sym}
use Rattle.isa_table.proofs.laws.decoded_again.Goals as goal

pub returns : goal.returns
returns c = λ word insn h. (record { word = word; is_insn = h.found }, λ again e. sym (e.only word h.found))
