-- Replies about the members of a state.
use Rattle.std.proofs.Common.{◌≡◌, ℕ, List, Result, ◌++◌, subst}
use Rattle.std.specs.Prelude.{OnOk}
use Rattle.reached.specs.Order.{Found}

-- what is told of some members is told of those that are the same
pub told_of : {X E : Type 0} (said : List Found → List ℕ) (xs ys : List Found) (r : Result X E) (text old : List ℕ) → xs ≡ ys
    → OnOk r (text ≡ old ++ said xs) → OnOk r (text ≡ old ++ said ys)
told_of said xs ys r text old same told = subst (λ zs. OnOk r (text ≡ old ++ said zs)) same told
