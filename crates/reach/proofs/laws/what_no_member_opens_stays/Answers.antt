use Rattle.devices.specs.Devices.{halt, timer_compare, transmit, control_register}
use Rattle.reach.proofs.Meaning.{not_stored, not_stored_at, no_system}
use Rattle.reach.proofs.laws.what_no_member_opens_stays.Goals as goal

pub returns-clause-bytes : goal.returns-clause-bytes
returns-clause-bytes c = λ events s vs address size are run none a in_ram low high.
    (c.plain_runs_keep_authority.ensures.left_alone events s run).memory.bytes a in_ram (not_stored s vs are address size none a low high)

pub returns-clause-tags : goal.returns-clause-tags
returns-clause-tags c = λ events s vs granule are run none.
    (c.plain_runs_keep_authority.ensures.left_alone events s run).memory.tags granule (not_stored s vs are granule 16 none)

pub returns-clause-silent : goal.returns-clause-silent
returns-clause-silent c = λ events s vs are run none.
    c.plain_runs_keep_authority.ensures.silent events s run (not_stored_at s vs are transmit none)

pub returns-clause-halt : goal.returns-clause-halt
returns-clause-halt c = λ events s vs are run none.
    (c.plain_runs_keep_authority.ensures.left_alone events s run).devices.halt (not_stored_at s vs are halt none)

pub returns-clause-timer : goal.returns-clause-timer
returns-clause-timer c = λ events s vs are run none.
    (c.plain_runs_keep_authority.ensures.left_alone events s run).devices.kept 0 (not_stored_at s vs are timer_compare none)

pub returns-clause-control : goal.returns-clause-control
returns-clause-control c = λ events s vs are run none.
    (c.plain_runs_keep_authority.ensures.left_alone events s run).devices.control (not_stored_at s vs are control_register none)

pub returns-clause-special : goal.returns-clause-special
returns-clause-special c = λ events s vs are run none.
    (c.plain_runs_keep_authority.ensures.left_alone events s run).scrs (no_system s vs are none)

pub returns-clause-control_and_status : goal.returns-clause-control_and_status
returns-clause-control_and_status c = λ events s vs are run none.
    (c.plain_runs_keep_authority.ensures.left_alone events s run).csrs (no_system s vs are none)
