use Rattle.steps.specs.Event.{after}
use Rattle.authority.specs.Reachable.{IsReachable}
use Rattle.machine.specs.Run.{run_after}
use Rattle.reach.proofs.Keeping.{not-kept}
use Rattle.reach.proofs.laws.what_no_member_may_keep_is_not_kept.Goals as goal

pub returns-clause-run : goal.returns-clause-run
returns-clause-run c = λ events s vs address size are run none.
    not-kept (IsReachable s) s.memory vs are.complete address size none (run_after events s).memory
    (c.plain_runs_keep_nothing_lent.ensures.run events s run)

pub returns-clause-ending : goal.returns-clause-ending
returns-clause-ending c = λ events s e vs address size are run none.
    not-kept (IsReachable s) s.memory vs are.complete address size none (after e (run_after events s)).memory
    (c.plain_runs_keep_nothing_lent.ensures.ending events s e run)
