use Rattle.machine.specs.Run.{run_after}
use Rattle.doors.specs.Doors.{IsReachableThroughDoors}
use Rattle.doors.specs.DoorsLaws.{doors-have, through-bounded}
use Rattle.doors.specs.SetLaws.{rights-bounded, seals-bounded}
use Rattle.doors.proofs.Turns.{turn-keeps-doors, beginning}
use Rattle.doors.proofs.laws.turns_keep_authority.Goals as goal

pub returns-clause-rights : goal.returns-clause-rights
returns-clause-rights c = λ events s turn.
    rights-bounded (IsReachableThroughDoors s) (run_after events s) (turn-keeps-doors events s turn).bounds

pub returns-clause-seals : goal.returns-clause-seals
returns-clause-seals c = λ events s turn.
    seals-bounded (IsReachableThroughDoors s) (run_after events s) (turn-keeps-doors events s turn).bounds

pub returns-clause-doors : goal.returns-clause-doors
returns-clause-doors c = λ events s turn.
    through-bounded (IsReachableThroughDoors s) (run_after events s) (turn-keeps-doors events s turn).bounds (doors-have s)

pub returns-clause-left_alone : goal.returns-clause-left_alone
returns-clause-left_alone c = λ events s turn. (turn-keeps-doors events s turn).left

pub returns-clause-silent : goal.returns-clause-silent
returns-clause-silent c = λ events s turn. (turn-keeps-doors events s turn).silent

pub returns-clause-beginnings : goal.returns-clause-beginnings
returns-clause-beginnings c = beginning
