use Rattle.doors.specs.DoorsLaws.{through-bounded}
use Rattle.doors.specs.SetLaws.{Bounds-closed, bounded}
use Rattle.doors.proofs.Turns.{Bounds-plain, Bounds-jump}
use Rattle.doors.proofs.laws.closed_sets_bound_authority.Goals as goal

pub returns-clause-closed : goal.returns-clause-closed
returns-clause-closed g c = λ o s closed. Bounds-closed (g.S.CapSet.has o) s closed

pub returns-clause-reach : goal.returns-clause-reach
returns-clause-reach g c = λ o s bounds v reachable. bounded (g.S.CapSet.has o) s bounds v reachable

pub returns-clause-doors : goal.returns-clause-doors
returns-clause-doors g c = λ o s bounds doors v through. through-bounded (g.S.CapSet.has o) s bounds doors v through

pub returns-clause-plain : goal.returns-clause-plain
returns-clause-plain g c = λ o s e is bounds plain. Bounds-plain (g.S.CapSet.has o) s e is bounds plain

pub returns-clause-jump : goal.returns-clause-jump
returns-clause-jump g c = λ o s e is doors bounds jump. Bounds-jump (g.S.CapSet.has o) doors s e is bounds jump
