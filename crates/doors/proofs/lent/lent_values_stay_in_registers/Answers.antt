use Rattle.steps.specs.Event.{after}
use Rattle.machine.specs.Run.{run_after}
use Rattle.doors.specs.Doors.{IsReachableThroughDoors}
use Rattle.doors.proofs.Found.{entered, found-turn, found-trap}
use Rattle.doors.proofs.Lending.{turn-keeps_doors, ending}
use Rattle.doors.proofs.Turns.{turn-keeps-doors}
use Rattle.doors.proofs.lent.lent_values_stay_in_registers.Goals as goal

pub returns-clause-turn : goal.returns-clause-turn
returns-clause-turn c = λ events s turn none v is.
    found-turn (IsReachableThroughDoors s) s v is (run_after events s) ((turn-keeps-doors events s turn).left.scrs none)
    (turn-keeps_doors events s turn).kept

pub returns-clause-trap : goal.returns-clause-trap
returns-clause-trap c = λ events s e turn none trap v is.
    found-trap (IsReachableThroughDoors s) s v is (run_after events s) (after e (run_after events s))
    ((turn-keeps-doors events s turn).left.scrs none) (entered e (run_after events s) trap)
    (ending (IsReachableThroughDoors s) s.memory (run_after events s) e (turn-keeps_doors events s turn))
