use Rattle.policy.proofs.Tests.{about-it, applies-it, is-break}
use Rattle.policy.proofs.laws.tests_mean_what_policies_say.Goals as goal

pub returns-clause-breaks : goal.returns-clause-breaks
returns-clause-breaks c = λ rule ban v. is-break v rule ban

pub returns-clause-about : goal.returns-clause-about
returns-clause-about c = λ rule pc. about-it rule pc

pub returns-clause-applies : goal.returns-clause-applies
returns-clause-applies c = λ rule at. applies-it rule at
