use Rattle.doors.specs.DoorsLaws.{doors-closed, doors-have, doors-least, doors-reachable}
use Rattle.doors.proofs.laws.doors_make_the_least_set_with_doors.Goals as goal

pub returns-clause-closed : goal.returns-clause-closed
returns-clause-closed g c = doors-closed

pub returns-clause-doors : goal.returns-clause-doors
returns-clause-doors g c = doors-have

pub returns-clause-least : goal.returns-clause-least
returns-clause-least g c = λ o s closed doors v through. doors-least (g.S.CapSet.has o) s closed doors v through

pub returns-clause-wider : goal.returns-clause-wider
returns-clause-wider g c = doors-reachable
