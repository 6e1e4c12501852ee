use Rattle.doors.proofs.Turns.{turn-keeps}
use Rattle.doors.proofs.laws.closed_sets_bound_turns.Goals as goal

pub returns-clause-bounds : goal.returns-clause-bounds
returns-clause-bounds g c = λ o s events doors bounds turn. (turn-keeps (g.S.CapSet.has o) events s doors bounds turn).bounds

pub returns-clause-left_alone : goal.returns-clause-left_alone
returns-clause-left_alone g c = λ o s events doors bounds turn. (turn-keeps (g.S.CapSet.has o) events s doors bounds turn).left

pub returns-clause-silent : goal.returns-clause-silent
returns-clause-silent g c = λ o s events doors bounds turn. (turn-keeps (g.S.CapSet.has o) events s doors bounds turn).silent
