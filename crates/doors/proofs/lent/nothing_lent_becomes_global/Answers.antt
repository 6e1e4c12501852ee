use Rattle.machine.specs.Run.{run_after}
use Rattle.authority.specs.Reachable.{IsReachable}
use Rattle.doors.specs.Doors.{IsReachableThroughDoors}
use Rattle.doors.specs.DoorsLaws.{doors-have, through-bounded}
use Rattle.doors.specs.SetLaws.{bounded}
use Rattle.doors.proofs.Lending.{covered-given, plain-keeps_reachable, turn-keeps_doors}
use Rattle.doors.proofs.lent.nothing_lent_becomes_global.Goals as goal

pub returns-clause-plain : goal.returns-clause-plain
returns-clause-plain c = λ events s run v reachable global.
    covered-given (IsReachable s) v global
    (bounded (IsReachable s) (run_after events s) (plain-keeps_reachable events s run).bounds v reachable).covered

pub returns-clause-turn : goal.returns-clause-turn
returns-clause-turn c = λ events s turn v reachable global.
    covered-given (IsReachableThroughDoors s) v global
    (bounded (IsReachableThroughDoors s) (run_after events s) (turn-keeps_doors events s turn).bounds v reachable).covered

pub returns-clause-doors : goal.returns-clause-doors
returns-clause-doors c = λ events s turn v through global.
    let bounds = (turn-keeps_doors events s turn).bounds in
    covered-given (IsReachableThroughDoors s) v global
    (through-bounded (IsReachableThroughDoors s) (run_after events s) bounds (doors-have s) v through).covered
