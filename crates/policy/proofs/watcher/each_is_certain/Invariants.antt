use Rattle.std.proofs.Common.{ℕ, ◌<◌, ◌⊎◌}
use Rattle.std.specs.List.{HoldsAt}
use Rattle.policy.specs.Terms.{terms_of}
use Rattle.policy.specs.Watch.{Applies, Holds}
use Rattle.policy.specs.Known.{Applied, AreCertified}
use Rattle.policy.proofs.watcher.each_is_certain.Given as goal

abbrev pub invariant-loop-place : goal.invariant-loop-place
invariant-loop-place g l = record {
  certified : AreCertified (terms_of l.rules) l.fn.certified l.hart.memory → AreCertified (terms_of l.rules) l.certified l.hart.memory;
  holds :
      AreCertified (terms_of l.rules) l.fn.certified l.hart.memory → (k : ℕ) → k < l.place
      → HoldsAt (λ rule. Applies rule l.at → Applied l.known rule ⊎ Holds rule l.hart) (terms_of l.rules) k;
}
