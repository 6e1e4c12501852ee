use Rattle.always.proofs.Enclosing.{run-enclosed, rules-kept}
use Rattle.always.proofs.laws.enclosed_code_stays_enclosed.Goals as goal

pub returns-clause-enclosed : goal.returns-clause-enclosed
returns-clause-enclosed g c = λ o s events encloses are is enclosed.
    (run-enclosed (g.S.CapSet.has o) encloses
    (λ e t event state bounds. c.any_code_keeps_to_its_set.ensures o t e encloses.doors encloses.unseals bounds state event)
    events s are is enclosed).0

pub returns-clause-left_alone : goal.returns-clause-left_alone
returns-clause-left_alone g c = λ o s events encloses are is enclosed.
    (run-enclosed (g.S.CapSet.has o) encloses
    (λ e t event state bounds. c.any_code_keeps_to_its_set.ensures o t e encloses.doors encloses.unseals bounds state event)
    events s are is enclosed).1

pub returns-clause-rules : goal.returns-clause-rules
returns-clause-rules g c = λ o s rules events encloses lends keeps are is enclosed.
    rules-kept (g.S.CapSet.has o) encloses
    (λ e t event state bounds. c.any_code_keeps_to_its_set.ensures o t e encloses.doors encloses.unseals bounds state event)
    rules events s lends keeps are is enclosed
