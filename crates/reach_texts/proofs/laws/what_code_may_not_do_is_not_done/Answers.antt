use Rattle.std.proofs.Common.{refl}
use Rattle.reach.specs.declared.may.May.TheVariants.{Send, Halt, Timer}
use Rattle.devices.specs.Devices.{halt, timer_compare, transmit}
use Rattle.reach_texts.specs.Asked.{values_of}
use Rattle.reach_texts.proofs.Refused.{no_store, no_store_at, no_system}
use Rattle.reach_texts.proofs.laws.what_code_may_not_do_is_not_done.Goals as goal

pub returns-clause-store : goal.returns-clause-store
returns-clause-store c = λ events s xs address size are run refused.
    c.what_no_member_opens_stays.ensures.bytes events s (values_of xs) address size are run (no_store xs address size refused)

pub returns-clause-send : goal.returns-clause-send
returns-clause-send c = λ events s xs are run refused.
    c.what_no_member_opens_stays.ensures.silent events s (values_of xs) are run (no_store_at xs Send transmit (λ v. refl) refused)

pub returns-clause-halt : goal.returns-clause-halt
returns-clause-halt c = λ events s xs are run refused.
    c.what_no_member_opens_stays.ensures.halt events s (values_of xs) are run (no_store_at xs Halt halt (λ v. refl) refused)

pub returns-clause-timer : goal.returns-clause-timer
returns-clause-timer c = λ events s xs are run refused.
    c.what_no_member_opens_stays.ensures.timer events s (values_of xs) are run (no_store_at xs Timer timer_compare (λ v. refl) refused)

pub returns-clause-special : goal.returns-clause-special
returns-clause-special c = λ events s xs are run refused.
    c.what_no_member_opens_stays.ensures.special events s (values_of xs) are run (no_system xs refused)

pub returns-clause-control_and_status : goal.returns-clause-control_and_status
returns-clause-control_and_status c = λ events s xs are run refused.
    c.what_no_member_opens_stays.ensures.control_and_status events s (values_of xs) are run (no_system xs refused)
