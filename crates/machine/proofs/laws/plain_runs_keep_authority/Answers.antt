use Rattle.machine.specs.Run.{run_after}
use Rattle.authority.specs.GroundedLaws.{NoNewRights-grows, NewSealsAllowed-grows}
use Rattle.machine.proofs.PlainRuns.{plain-keeps, beginning}
use Rattle.machine.proofs.laws.plain_runs_keep_authority.Goals as goal

pub returns-clause-rights : goal.returns-clause-rights
returns-clause-rights c = λ events s run. NoNewRights-grows s (run_after events s) (plain-keeps events s run).grows_not

pub returns-clause-seals : goal.returns-clause-seals
returns-clause-seals c = λ events s run. NewSealsAllowed-grows s (run_after events s) (plain-keeps events s run).grows_not

pub returns-clause-left_alone : goal.returns-clause-left_alone
returns-clause-left_alone c = λ events s run. (plain-keeps events s run).leaves_alone

pub returns-clause-silent : goal.returns-clause-silent
returns-clause-silent c = λ events s run. (plain-keeps events s run).silent

pub returns-clause-beginnings : goal.returns-clause-beginnings
returns-clause-beginnings c = beginning
