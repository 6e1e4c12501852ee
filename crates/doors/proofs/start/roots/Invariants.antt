use Rattle.std.proofs.Common.{◌≡◌, map, take}
use Rattle.doors.proofs.start.roots.Given as goal

abbrev pub invariant-loop-n : goal.invariant-loop-n
invariant-loop-n g l = map g.C.CapRep.value l.found.items ≡ take l.n l.hart.registers
