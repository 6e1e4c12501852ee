use Rattle.cap_rights.proofs.Globals.{unsealed-global, permits-sealed, permits-entry, permits-opened}
use Rattle.cap_rights.proofs.laws.global_comes_of_global_alone.Goals as goal

pub returns-clause-unsealed : goal.returns-clause-unsealed
returns-clause-unsealed c = unsealed-global

pub returns-clause-sealed : goal.returns-clause-sealed
returns-clause-sealed c = permits-sealed

pub returns-clause-entry : goal.returns-clause-entry
returns-clause-entry c = permits-entry

pub returns-clause-type_alone : goal.returns-clause-type_alone
returns-clause-type_alone c = permits-opened
