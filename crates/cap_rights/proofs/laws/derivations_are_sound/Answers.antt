use Rattle.cap_rights.specs.DerivationLaws.{IsSound-and_perms, IsSound-set_flags, IsSound-seal, IsSound-unseal, IsSound-seal_entry}
use Rattle.cap_rights.specs.DerivationLaws.{IsSound-opened}
use Rattle.cap_rights.proofs.laws.derivations_are_sound.Goals as goal

pub returns-clause-fewer_permissions : goal.returns-clause-fewer_permissions
returns-clause-fewer_permissions c = IsSound-and_perms

pub returns-clause-other_flag : goal.returns-clause-other_flag
returns-clause-other_flag c = IsSound-set_flags

pub returns-clause-sealed : goal.returns-clause-sealed
returns-clause-sealed c = IsSound-seal

pub returns-clause-unsealed : goal.returns-clause-unsealed
returns-clause-unsealed c = IsSound-unseal

pub returns-clause-entry : goal.returns-clause-entry
returns-clause-entry c = IsSound-seal_entry

pub returns-clause-type_alone : goal.returns-clause-type_alone
returns-clause-type_alone c = IsSound-opened
