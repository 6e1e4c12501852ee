use Rattle.policy.proofs.Learning.{keeps-to}
use Rattle.policy.proofs.laws.rules_that_hold_are_kept.Goals as goal

pub returns : goal.returns
returns c = λ rule e s is holds. keeps-to rule s holds e is
