-- What is written after a text, part by part.
use Rattle.std.proofs.Common.{◌≡◌, ℕ, List, Result, ◌++◌, ap, ◌∙◌, subst}
use Rattle.std.proofs.lemmas.List.{append_assoc}
use Rattle.std.specs.Prelude.{OnOk}

-- one part more
pub more : (old text new before part : List ℕ) → text ≡ old ++ before → new ≡ text ++ part → new ≡ old ++ (before ++ part)
more old text new before part so_far written = written ∙ ap (λ t. t ++ part) so_far ∙ append_assoc old before part

-- the last part
pub last : {X E : Type 0} (r : Result X E) (old text new before part : List ℕ) → text ≡ old ++ before → OnOk r (new ≡ text ++ part)
    → OnOk r (new ≡ old ++ (before ++ part))
last r old text new before part so_far written =
    subst (λ t. OnOk r (new ≡ t)) (ap (λ t. t ++ part) so_far ∙ append_assoc old before part) written
