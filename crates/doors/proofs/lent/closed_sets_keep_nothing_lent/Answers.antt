use Rattle.machine.specs.Run.{run_after}
use Rattle.doors.proofs.Lending.{kept-none, kept-after, turn-keeps_so, ending, kept-unless}
use Rattle.doors.proofs.lent.closed_sets_keep_nothing_lent.Goals as goal

pub returns-clause-event : goal.returns-clause-event
returns-clause-event g c = λ o s e is bounds. kept-after (g.S.CapSet.has o) s.memory s e is bounds (kept-none (g.S.CapSet.has o) s.memory)

pub returns-clause-turn : goal.returns-clause-turn
returns-clause-turn g c = λ o s events doors bounds turn. (turn-keeps_so (g.S.CapSet.has o) events s doors bounds turn).kept

pub returns-clause-ending : goal.returns-clause-ending
returns-clause-ending g c = λ o s events e doors bounds turn.
    ending (g.S.CapSet.has o) s.memory (run_after events s) e (turn-keeps_so (g.S.CapSet.has o) events s doors bounds turn)

pub returns-clause-none : goal.returns-clause-none
returns-clause-none g c = λ o m later keeps granule v none here.
    kept-unless (g.S.CapSet.has o) m granule v none (keeps granule v here)
