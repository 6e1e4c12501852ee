use Rattle.steps.specs.Event.{after}
use Rattle.machine.specs.Run.{run_after}
use Rattle.doors.specs.Doors.{IsReachableThroughDoors}
use Rattle.doors.proofs.Found.{left-cleared}
use Rattle.doors.proofs.Lending.{turn-keeps_doors, ending}
use Rattle.doors.proofs.lent.cleared_states_reach_what_was_left_behind.Goals as goal

pub returns-clause-turn : goal.returns-clause-turn
returns-clause-turn c = λ events s cleared turn v is clear.
    left-cleared (IsReachableThroughDoors s) s v is (run_after events s) cleared clear (turn-keeps_doors events s turn).kept

pub returns-clause-ending : goal.returns-clause-ending
returns-clause-ending c = λ events s cleared e turn v is clear.
    left-cleared (IsReachableThroughDoors s) s v is (after e (run_after events s)) cleared clear
    (ending (IsReachableThroughDoors s) s.memory (run_after events s) e (turn-keeps_doors events s turn))
