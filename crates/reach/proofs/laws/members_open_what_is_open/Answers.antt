use Rattle.reach.proofs.Meaning.{open-writable, writable-open, open-readable, readable-open}
use Rattle.reach.proofs.laws.members_open_what_is_open.Goals as goal

pub returns-clause-writable : goal.returns-clause-writable
returns-clause-writable c = λ s vs are a. (open-writable s vs are a, writable-open s vs are a)

pub returns-clause-readable : goal.returns-clause-readable
returns-clause-readable c = λ s vs are a. (open-readable s vs are a, readable-open s vs are a)
