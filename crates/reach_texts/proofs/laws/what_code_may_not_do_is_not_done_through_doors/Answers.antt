use Rattle.std.proofs.Common.{refl}
use Rattle.reach.specs.declared.may.May.TheVariants.{Send, Halt, Timer}
use Rattle.devices.specs.Devices.{halt, timer_compare, transmit}
use Rattle.reach_texts.specs.Asked.{values_of}
use Rattle.reach_texts.proofs.Refused.{no_store, no_store_at, no_system}
use Rattle.reach_texts.proofs.ThroughDoors.{not_stored, not_stored_at, not_system}
use Rattle.reach_texts.proofs.laws.what_code_may_not_do_is_not_done_through_doors.Goals as goal

pub returns-clause-store : goal.returns-clause-store
returns-clause-store c = λ events s xs address size are turn refused a in_ram low high.
    (c.turns_keep_authority.ensures.left_alone events s turn).memory.bytes a in_ram
    (not_stored s (values_of xs) are address size (no_store xs address size refused) a low high)

pub returns-clause-send : goal.returns-clause-send
returns-clause-send c = λ events s xs are turn refused.
    c.turns_keep_authority.ensures.silent events s turn
    (not_stored_at s (values_of xs) are transmit (no_store_at xs Send transmit (λ v. refl) refused))

pub returns-clause-halt : goal.returns-clause-halt
returns-clause-halt c = λ events s xs are turn refused.
    (c.turns_keep_authority.ensures.left_alone events s turn).devices.halt
    (not_stored_at s (values_of xs) are halt (no_store_at xs Halt halt (λ v. refl) refused))

pub returns-clause-timer : goal.returns-clause-timer
returns-clause-timer c = λ events s xs are turn refused.
    (c.turns_keep_authority.ensures.left_alone events s turn).devices.kept 0
    (not_stored_at s (values_of xs) are timer_compare (no_store_at xs Timer timer_compare (λ v. refl) refused))

pub returns-clause-special : goal.returns-clause-special
returns-clause-special c = λ events s xs are turn refused.
    (c.turns_keep_authority.ensures.left_alone events s turn).scrs
    (not_system s (values_of xs) are (no_system xs refused))

pub returns-clause-control_and_status : goal.returns-clause-control_and_status
returns-clause-control_and_status c = λ events s xs are turn refused.
    (c.turns_keep_authority.ensures.left_alone events s turn).csrs
    (not_system s (values_of xs) are (no_system xs refused))
