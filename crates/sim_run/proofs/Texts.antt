-- One text after another.
use Rattle.std.proofs.Common.{◌≡◌, ℕ, List, ◌++◌, ap, ◌∙◌, append_assoc}

pub text_on : (old between new a b : List ℕ) → between ≡ old ++ a → new ≡ between ++ b → new ≡ old ++ (a ++ b)
text_on old between new a b e f = f ∙ ap (λ k. k ++ b) e ∙ append_assoc old a b
