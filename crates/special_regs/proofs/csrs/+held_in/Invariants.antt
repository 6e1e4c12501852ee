use Rattle.std.proofs.Common.{length}
use Rattle.special_regs.proofs.csrs.+held_in.Given as goal

abbrev pub decreases-held_in : goal.decreases-held_in
decreases-held_in l = length l.listing.now
