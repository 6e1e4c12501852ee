use Rattle.std.proofs.Common.{ℕ, ◌<◌}
use Rattle.std.specs.List.{HoldsAt}
use Rattle.reached.specs.Links.{values}
use Rattle.every_run.proofs.Enclosed.{IsHarmless}
use Rattle.every_run.proofs.enclosure.check_harmless.Given as goal

abbrev pub invariant-loop-member : goal.invariant-loop-member
invariant-loop-member g l = (k : ℕ) → k < l.member-index → HoldsAt IsHarmless (values g.C.CapRep.value l.members) k
