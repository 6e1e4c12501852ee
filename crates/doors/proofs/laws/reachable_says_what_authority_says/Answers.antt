use Rattle.doors.proofs.Words.{rights-there, rights-back, seals-there, seals-back, left-there, left-back, silent-there, silent-back}
use Rattle.doors.proofs.laws.reachable_says_what_authority_says.Goals as goal

pub returns-clause-rights : goal.returns-clause-rights
returns-clause-rights c = λ s later. (rights-there s later, rights-back s later)

pub returns-clause-seals : goal.returns-clause-seals
returns-clause-seals c = λ s later. (seals-there s later, seals-back s later)

pub returns-clause-left_alone : goal.returns-clause-left_alone
returns-clause-left_alone c = λ s later. (left-there s later, left-back s later)

pub returns-clause-silent : goal.returns-clause-silent
returns-clause-silent c = λ s bytes. (silent-there s bytes, silent-back s bytes)
