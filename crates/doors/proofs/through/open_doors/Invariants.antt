use Rattle.std.proofs.Common.{map}
use Rattle.doors.specs.ThroughOrder.{open_doors}
use Rattle.doors.proofs.Ordered.{IsRoundTo}
use Rattle.doors.proofs.through.open_doors.Given as goal

abbrev pub invariant-loop-member : goal.invariant-loop-member
invariant-loop-member g l =
    IsRoundTo g.C.CapRep.value l.members l.member-index (open_doors l.fn.doors.items (map g.C.CapRep.value l.fn.roots.items))
    (open_doors l.doors.items (map g.C.CapRep.value l.roots.items))
