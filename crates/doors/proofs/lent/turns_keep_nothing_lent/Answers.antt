use Rattle.machine.specs.Run.{run_after}
use Rattle.doors.specs.Doors.{IsReachableThroughDoors}
use Rattle.doors.proofs.Lending.{turn-keeps_doors, ending}
use Rattle.doors.proofs.lent.turns_keep_nothing_lent.Goals as goal

pub returns-clause-run : goal.returns-clause-run
returns-clause-run c = λ events s turn. (turn-keeps_doors events s turn).kept

pub returns-clause-ending : goal.returns-clause-ending
returns-clause-ending c = λ events s e turn.
    ending (IsReachableThroughDoors s) s.memory (run_after events s) e (turn-keeps_doors events s turn)
