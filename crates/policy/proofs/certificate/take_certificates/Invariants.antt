use Rattle.std.proofs.Common.{◌≡◌, ℕ, ◌<◌, true, false, get_or}
use Rattle.std.specs.List.{HoldsAt}
use Rattle.steps.specs.Applying.{meant}
use Rattle.steps.specs.declared.effect.Effect.TheVariants as effect
use Rattle.policy.specs.Terms.{terms_of}
use Rattle.policy.specs.Known.{KeepsCertificate}
use Rattle.policy.proofs.certificate.take_certificates.Given as goal

abbrev pub invariant-loop-place : goal.invariant-loop-place
invariant-loop-place g l = record {
  left : (k : ℕ) → get_or l.certified k false ≡ true → get_or l.fn.certified k false ≡ true;
  looked : (k : ℕ) → k < l.place → get_or l.certified k false ≡ true
      → HoldsAt (KeepsCertificate (meant g.C.CapRep.value (effect.StoreCapability l.store))) (terms_of l.rules) k;
}
