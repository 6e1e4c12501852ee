use Rattle.std.proofs.Common.{length}
use Rattle.asm_names.proofs.special_names.+number_in.Given as goal

abbrev pub decreases-number_in : goal.decreases-number_in
decreases-number_in l = length l.names.now
