use Rattle.std.proofs.Common.{ℕ, ◌-◌, ◌<◌, ◌≤◌}
use Rattle.cap_bounds.specs.Rounding.{granules_spanned}
use Rattle.cap_bounds.proofs.rounding.exponent.Given as goal

-- no exponent so far is enough
abbrev pub invariant-loop-e : goal.invariant-loop-e
invariant-loop-e l = record {
  in_range : l.e ≤ 52;
  too_small : (j : ℕ) → j < l.e → 1024 ≤ granules_spanned j l.base l.top;
}

abbrev pub decreases-loop-e : goal.decreases-loop-e
decreases-loop-e l = 52 - l.e
