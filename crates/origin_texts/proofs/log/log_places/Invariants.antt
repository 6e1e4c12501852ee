use Rattle.std.proofs.Common.{◌≡◌, ◌++◌, take}
use Rattle.origin_texts.specs.Writes.{made_there, noted}
use Rattle.origin_texts.proofs.log.log_places.Given as goal

abbrev pub invariant-loop-place : goal.invariant-loop-place
invariant-loop-place g l =
    l.log.items ≡ l.fn.log.items ++ noted (made_there l.machine) l.before (take l.place-index l.fn.places)
