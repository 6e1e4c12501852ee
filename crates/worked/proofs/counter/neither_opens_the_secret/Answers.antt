use Rattle.worked.proofs.Confining.{differs-within, no-device, no-fetch, no-load, no-seal, no-store, no-system, no-unsealing, none-sealed}
use Rattle.worked.proofs.counter.neither_opens_the_secret.Goals as goal

pub returns-clause-store : goal.returns-clause-store
returns-clause-store c = no-store

pub returns-clause-load : goal.returns-clause-load
returns-clause-load c = no-load

pub returns-clause-execute : goal.returns-clause-execute
returns-clause-execute c = no-fetch

pub returns-clause-devices : goal.returns-clause-devices
returns-clause-devices c = no-device

pub returns-clause-system : goal.returns-clause-system
returns-clause-system c = no-system

pub returns-clause-seals : goal.returns-clause-seals
returns-clause-seals c = no-seal

pub returns-clause-unseals : goal.returns-clause-unseals
returns-clause-unseals c = no-unsealing

pub returns-clause-sealed : goal.returns-clause-sealed
returns-clause-sealed c = none-sealed

pub returns-clause-differs : goal.returns-clause-differs
returns-clause-differs c = differs-within
