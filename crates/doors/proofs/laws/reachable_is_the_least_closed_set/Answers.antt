use Rattle.doors.specs.SetLaws.{closed-reachable}
use Rattle.doors.proofs.Words.{reachable-closed}
use Rattle.doors.proofs.laws.reachable_is_the_least_closed_set.Goals as goal

pub returns-clause-closed : goal.returns-clause-closed
returns-clause-closed g c = reachable-closed

pub returns-clause-least : goal.returns-clause-least
returns-clause-least g c = λ o s closed v reachable. closed-reachable (g.S.CapSet.has o) s closed v reachable
