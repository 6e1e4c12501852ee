use Rattle.std.proofs.Common.{length}
use Rattle.asm_names.proofs.special_names.+name_in.Given as goal

abbrev pub decreases-name_in : goal.decreases-name_in
decreases-name_in l = length l.names.now
