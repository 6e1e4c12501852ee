use Rattle.std.proofs.Common.{map}
use Rattle.every_run.proofs.Found.{BeginsWithAll}
use Rattle.every_run.proofs.members.all_held.Given as goal

abbrev pub invariant-loop : goal.invariant-loop
invariant-loop g l = BeginsWithAll (map g.C.CapRep.value l.starts.items) (map g.C.CapRep.value l.begin)
