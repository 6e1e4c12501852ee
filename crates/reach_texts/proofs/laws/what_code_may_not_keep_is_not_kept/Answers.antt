use Rattle.reach_texts.specs.Asked.{values_of}
use Rattle.reach_texts.proofs.Refused.{no_keep}
use Rattle.reach_texts.proofs.laws.what_code_may_not_keep_is_not_kept.Goals as goal

pub returns-clause-run : goal.returns-clause-run
returns-clause-run c = λ events s xs address size are run refused.
    c.what_no_member_may_keep_is_not_kept.ensures.run events s (values_of xs) address size are run (no_keep xs address size refused)

pub returns-clause-ending : goal.returns-clause-ending
returns-clause-ending c = λ events s e xs address size are run refused.
    c.what_no_member_may_keep_is_not_kept.ensures.ending events s e (values_of xs) address size are run (no_keep xs address size refused)
