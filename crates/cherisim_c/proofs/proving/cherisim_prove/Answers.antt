use Rattle.std.proofs.Common.{ℕ, List, subst}
use Rattle.std.specs.Prelude.{string_bytes}
use Rattle.steps.specs.State.{State}
use Rattle.cherisim_c.specs.Policies.{IsProofOf}
use Rattle.cherisim_c.proofs.Buffers.{of_filled, of_long}
use Rattle.cherisim_c.proofs.proving.cherisim_prove.Goals as goal

pub returns-in-Ok-clause-ok : goal.returns-in-Ok-clause-ok
returns-in-Ok-clause-ok c =
    let told = string_bytes c.in-Ok.proof.told in
    let Tells : State → List ℕ → Type 0 = λ s. IsProofOf c.args.labels.now c.args.text.now s c.in-Ok.proof.shown in
    rw c.in-Some.ensures.value
    (λ done. of_filled (Tells c.in-Some.held.value) told c.as_str.result.now _
    (subst (λ s. Tells s told) c.deref.ensures c.in-Ok.ensures.ok) c.as_str.ensures.value _ (c.copy.ensures.ok done))

pub returns-in-Ok-clause-full : goal.returns-in-Ok-clause-full
returns-in-Ok-clause-full c =
    let told = string_bytes c.in-Ok.proof.told in
    let Tells : State → List ℕ → Type 0 = λ s. IsProofOf c.args.labels.now c.args.text.now s c.in-Ok.proof.shown in
    rw c.in-Some.ensures.value
    (λ done. of_long (Tells c.in-Some.held.value) told c.as_str.result.now _
    (subst (λ s. Tells s told) c.deref.ensures c.in-Ok.ensures.ok) c.as_str.ensures.value _ _ c.copy.ensures.size
    (c.copy.ensures.full done))
