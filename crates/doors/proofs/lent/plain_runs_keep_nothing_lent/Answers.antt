use Rattle.machine.specs.Run.{run_after}
use Rattle.authority.specs.Reachable.{IsReachable}
use Rattle.doors.proofs.Lending.{plain-keeps_reachable, ending}
use Rattle.doors.proofs.lent.plain_runs_keep_nothing_lent.Goals as goal

pub returns-clause-run : goal.returns-clause-run
returns-clause-run c = λ events s run. (plain-keeps_reachable events s run).kept

pub returns-clause-ending : goal.returns-clause-ending
returns-clause-ending c = λ events s e run.
    ending (IsReachable s) s.memory (run_after events s) e (plain-keeps_reachable events s run)
