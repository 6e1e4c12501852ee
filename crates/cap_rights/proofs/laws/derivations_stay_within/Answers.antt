use Rattle.cap_rights.specs.DerivationLaws.{IsWithin-and_perms, IsWithin-set_flags, IsWithin-seal, IsWithin-unseal, IsWithin-seal_entry}
use Rattle.cap_rights.proofs.laws.derivations_stay_within.Goals as goal

pub returns-clause-fewer_permissions : goal.returns-clause-fewer_permissions
returns-clause-fewer_permissions c = IsWithin-and_perms

pub returns-clause-other_flag : goal.returns-clause-other_flag
returns-clause-other_flag c = IsWithin-set_flags

pub returns-clause-sealed : goal.returns-clause-sealed
returns-clause-sealed c = IsWithin-seal

pub returns-clause-unsealed : goal.returns-clause-unsealed
returns-clause-unsealed c = IsWithin-unseal

pub returns-clause-entry : goal.returns-clause-entry
returns-clause-entry c = IsWithin-seal_entry
