use Rattle.std.proofs.Common.{ℕ, ◌<◌}
use Rattle.std.specs.List.{HoldsAt}
use Rattle.reached.specs.Links.{values}
use Rattle.doors.specs.Closed.{IsOpenedBy}
use Rattle.every_run.proofs.members.has_behind.Given as goal

abbrev pub invariant-loop-key : goal.invariant-loop-key
invariant-loop-key g l =
    (k : ℕ) → k < l.key-index
    → HoldsAt (λ key. IsOpenedBy (g.C.CapRep.value l.cap) key → ⊥) (values g.C.CapRep.value l.members) k
