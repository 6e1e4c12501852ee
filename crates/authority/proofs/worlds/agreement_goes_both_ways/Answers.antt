use Rattle.authority.proofs.AgreesBothWays.{reachable-there, reachable-back, Agree-refl, Agree-sym, Agree-trans}
use Rattle.authority.proofs.worlds.agreement_goes_both_ways.Goals as goal

pub returns-clause-there : goal.returns-clause-there
returns-clause-there c = reachable-there

pub returns-clause-back : goal.returns-clause-back
returns-clause-back c = reachable-back

pub returns-clause-itself : goal.returns-clause-itself
returns-clause-itself c = Agree-refl

pub returns-clause-other : goal.returns-clause-other
returns-clause-other c = Agree-sym

pub returns-clause-third : goal.returns-clause-third
returns-clause-third c = λ s t u is agree then. Agree-trans s t is agree u then
