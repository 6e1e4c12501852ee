use Rattle.std.proofs.Common.{length}
use Rattle.disassembler.proofs.operands.+append_rest.Given as goal

abbrev pub decreases-append_rest : goal.decreases-append_rest
decreases-append_rest l = length l.slots.now
