use Rattle.std.proofs.Common.{ℕ, ◌<◌}
use Rattle.std.specs.List.{HoldsAt}
use Rattle.policy.specs.Terms.{terms}
use Rattle.policy.proofs.Certificates.{RangeKeeps}
use Rattle.policy.proofs.certificate.certifies.Given as goal

abbrev pub invariant-loop-range : goal.invariant-loop-range
invariant-loop-range g l = (k : ℕ) → k < l.range-index → HoldsAt (RangeKeeps (terms l.rule) l.memory) (terms l.rule).load k
