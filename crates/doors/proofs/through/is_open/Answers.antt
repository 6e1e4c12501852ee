use Rattle.std.proofs.Common.{◌≡◌, rules, tests}
use Rattle.std.proofs.lemmas.Iterator.{cases_from_any, YieldsList-from_slice}
use Rattle.doors.specs.declared.through.Door.{Door}
use Rattle.doors.proofs.Rounds.{open-found}
use Rattle.doors.proofs.Ordered.{open-is}
use Rattle.doors.proofs.through.is_open.Goals as goal

pub returns : goal.returns
returns c =
    let doors = c.args.doors.now in
    let place = c.args.place in
    open-is c.any.result doors place
    (open-found c.any.result doors place
    (cases_from_any _ _ _ (λ (door : Door). door.sealed ≡ place) (λ (door : Door). door.sealed ≡ place → ⊥) c.any.ensures.ran
    (YieldsList-from_slice doors cc) (λ x q k. search (rules, tests)) (λ x q k. search (rules, tests))))
