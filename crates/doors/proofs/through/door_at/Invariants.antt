use Rattle.std.proofs.Common.{◌≡◌}
use Rattle.reached.specs.Order.{seen_members}
use Rattle.doors.specs.ThroughOrder.{key_of}
use Rattle.doors.proofs.Ordered.{seen_from}
use Rattle.doors.proofs.through.door_at.Given as goal

abbrev pub invariant-loop-key : goal.invariant-loop-key
invariant-loop-key g l =
    key_of (seen_members g.C.CapRep.value l.members) (g.C.CapRep.value l.member.cap)
    ≡ key_of (seen_from g.C.CapRep.value l.members l.key-index) (g.C.CapRep.value l.member.cap)
