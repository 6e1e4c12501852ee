use Rattle.std.proofs.Common.{ℕ, ◌+◌, ◌<◌, ◌≤◌}
use Rattle.std.specs.List.{HoldsAt}
use Rattle.cap_rights.specs.Rights.{OpensStore}
use Rattle.reached.specs.Links.{values}
use Rattle.every_run.proofs.kept.may_be_stored.Given as goal

abbrev pub invariant-loop-member : goal.invariant-loop-member
invariant-loop-member g l =
    (k : ℕ) → k < l.member-index
    → HoldsAt (λ c. (a : ℕ) → l.address ≤ a → a < l.address + l.size → OpensStore c a → ⊥) (values g.C.CapRep.value l.members) k
