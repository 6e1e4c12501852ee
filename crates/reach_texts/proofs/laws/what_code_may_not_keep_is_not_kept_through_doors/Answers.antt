use Rattle.steps.specs.Event.{after}
use Rattle.doors.specs.Doors.{IsReachableThroughDoors}
use Rattle.machine.specs.Run.{run_after}
use Rattle.reach.proofs.Keeping.{not-kept}
use Rattle.reach_texts.specs.Asked.{values_of}
use Rattle.reach_texts.proofs.Refused.{no_keep}
use Rattle.reach_texts.proofs.laws.what_code_may_not_keep_is_not_kept_through_doors.Goals as goal

pub returns-clause-run : goal.returns-clause-run
returns-clause-run c = λ events s xs address size are turn refused.
    not-kept (IsReachableThroughDoors s) s.memory (values_of xs) are.complete address size (no_keep xs address size refused)
    (run_after events s).memory (c.turns_keep_nothing_lent.ensures.run events s turn)

pub returns-clause-ending : goal.returns-clause-ending
returns-clause-ending c = λ events s e xs address size are turn refused.
    not-kept (IsReachableThroughDoors s) s.memory (values_of xs) are.complete address size (no_keep xs address size refused)
    (after e (run_after events s)).memory (c.turns_keep_nothing_lent.ensures.ending events s e turn)
