use Rattle.reach_texts.specs.Asked.{values_of}
use Rattle.reach_texts.proofs.Refused.{no_load, no_fetch}
use Rattle.reach_texts.proofs.ThroughDoors.{agree-hidden}
use Rattle.reach_texts.proofs.laws.what_code_may_not_learn_is_not_learned_through_doors.Goals as goal

pub returns : goal.returns
returns c = λ events s t xs address size are turn refused differs.
    let agree = agree-hidden s (values_of xs) are t address size (no_load xs address size refused)
    (no_fetch xs address size refused) differs in
    let same = c.turns_are_the_same_in_both_worlds.ensures in
    (same.goes_on events s t turn agree, same.twin events s t turn agree)
