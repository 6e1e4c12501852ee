use Rattle.reached.specs.Order.{seen_members}
use Rattle.reached.proofs.Ways.{IsWayDown, IsWayUp}
use Rattle.reached.proofs.way.chain.Given as goal

abbrev pub invariant-loop-last : goal.invariant-loop-last
invariant-loop-last g l = record {
  down : IsWayDown l.members l.index l.way.items l.last;
  up : IsWayUp (seen_members g.C.CapRep.value l.members) l.index l.way.items l.last;
}

abbrev pub decreases-loop-last : goal.decreases-loop-last
decreases-loop-last g l = l.last
