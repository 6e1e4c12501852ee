use Rattle.cap_rights.specs.DerivedLaws.{derived-at_address, derived-with_bounds, derived-and_perms, derived-set_flags}
use Rattle.cap_rights.specs.DerivedLaws.{derived-seal_entry, derived-opened, sealed-seal}
use Rattle.cap_rights.proofs.laws.derivations_give_no_rights.Goals as goal

pub returns-clause-other_address : goal.returns-clause-other_address
returns-clause-other_address c = derived-at_address

pub returns-clause-other_bounds : goal.returns-clause-other_bounds
returns-clause-other_bounds c = derived-with_bounds

pub returns-clause-fewer_permissions : goal.returns-clause-fewer_permissions
returns-clause-fewer_permissions c = derived-and_perms

pub returns-clause-other_flag : goal.returns-clause-other_flag
returns-clause-other_flag c = derived-set_flags

pub returns-clause-entry : goal.returns-clause-entry
returns-clause-entry c = derived-seal_entry

pub returns-clause-type_alone : goal.returns-clause-type_alone
returns-clause-type_alone c = derived-opened

pub returns-clause-sealed : goal.returns-clause-sealed
returns-clause-sealed c = sealed-seal
