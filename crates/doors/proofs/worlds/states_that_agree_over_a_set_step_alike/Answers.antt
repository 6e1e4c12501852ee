use Rattle.doors.proofs.TwoWorlds.{agree-there, agree-back, agree-bounded, agree-after}
use Rattle.doors.proofs.worlds.states_that_agree_over_a_set_step_alike.Goals as goal

pub returns-clause-reachable : goal.returns-clause-reachable
returns-clause-reachable g c = λ s t. (agree-there s t, agree-back s t)

pub returns-clause-agree : goal.returns-clause-agree
returns-clause-agree g c = λ o s t bounds agree. agree-bounded (g.S.CapSet.has o) s t bounds agree

pub returns-clause-steps : goal.returns-clause-steps
returns-clause-steps g c = λ o s t e is bounds agree none. agree-after (g.S.CapSet.has o) s t e is bounds agree none
