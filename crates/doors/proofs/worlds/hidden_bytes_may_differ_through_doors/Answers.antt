use Rattle.doors.specs.Doors.{IsReachableThroughDoors}
use Rattle.doors.proofs.TwoWorlds.{hidden-byte}
use Rattle.doors.proofs.worlds.hidden_bytes_may_differ_through_doors.Goals as goal

pub returns : goal.returns
returns c = λ s. hidden-byte (IsReachableThroughDoors s) s
