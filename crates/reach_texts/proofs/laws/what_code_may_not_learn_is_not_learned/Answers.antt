use Rattle.reach_texts.specs.Asked.{values_of}
use Rattle.reach_texts.proofs.Refused.{no_load, no_fetch}
use Rattle.reach_texts.proofs.laws.what_code_may_not_learn_is_not_learned.Goals as goal

pub returns : goal.returns
returns c = λ events s t xs address size are run refused differs.
    c.what_no_member_reads_is_not_learned.ensures events s t (values_of xs) address size are run (no_load xs address size refused)
    (no_fetch xs address size refused) differs
