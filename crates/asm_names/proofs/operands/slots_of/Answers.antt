use Rattle.std.proofs.Common.{rules}
use Rattle.asm_names.proofs.operands.slots_of.Goals as goal

pub returns : goal.returns
returns c = search rules
