use Rattle.std.proofs.Common.{◌≡◌, ℕ, ◌<◌, true, false, get_or}
use Rattle.std.specs.List.{HoldsAt}
use Rattle.policy.specs.Terms.{terms, terms_of}
use Rattle.policy.specs.Known.{OutOfReach}
use Rattle.policy.proofs.guard.keep_out_of_reach.Given as goal

abbrev pub invariant-loop-place : goal.invariant-loop-place
invariant-loop-place l = record {
  left : (k : ℕ) → get_or l.certified k false ≡ true → get_or l.fn.certified k false ≡ true;
  looked : (k : ℕ) → k < l.place → get_or l.certified k false ≡ true → HoldsAt (OutOfReach l.at (terms l.guard)) (terms_of l.rules) k;
}
