use Rattle.machine.specs.Run.{run_after, run_sent}
use Rattle.authority.specs.ConfinedLaws.{rights, seals, stays, silent, agrees}
use Rattle.authority.specs.GroundedLaws.{NoNewRights-grows, NewSealsAllowed-grows}
use Rattle.machine.proofs.PlainRuns.{plain-keeps, twin}
use Rattle.machine.proofs.laws.confined_runs_stay_confined.Goals as goal

pub returns-clause-rights : goal.returns-clause-rights
returns-clause-rights c = λ events s run confined.
    rights s confined (run_after events s) (NoNewRights-grows s (run_after events s) (plain-keeps events s run).grows_not)

pub returns-clause-seals : goal.returns-clause-seals
returns-clause-seals c = λ events s run confined.
    seals s confined (run_after events s) (NewSealsAllowed-grows s (run_after events s) (plain-keeps events s run).grows_not)

pub returns-clause-stays : goal.returns-clause-stays
returns-clause-stays c = λ events s run confined. stays s confined (run_after events s) (plain-keeps events s run).leaves_alone

pub returns-clause-silent : goal.returns-clause-silent
returns-clause-silent c = λ events s run confined. silent s confined (run_sent events s) (plain-keeps events s run).silent

pub returns-clause-two_worlds : goal.returns-clause-two_worlds
returns-clause-two_worlds c = λ events s t run confined looks. twin events s t run (agrees s confined t looks)
