use Rattle.std.proofs.Common.{◌-◌, ◌^◌, length, map}
use Rattle.doors.proofs.Searched.{IsOpenedSoFar}
use Rattle.doors.proofs.through.closure_through_doors.Given as goal

abbrev pub invariant-loop-doors : goal.invariant-loop-doors
invariant-loop-doors g l = IsOpenedSoFar l.hart (map g.C.CapRep.value l.starts.items) l.doors.items

-- each round but the last adds a door
abbrev pub decreases-loop-doors : goal.decreases-loop-doors
decreases-loop-doors g l = 2 ^ 64 - length l.doors.items
