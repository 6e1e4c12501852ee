-- What is kept of a line stands after what was kept before.
use Rattle.std.proofs.Common.{◌≡◌, List, [], ◌∷◌, ◌++◌, length, refl, ap, arith}
use Rattle.std.specs.Prelude.{map, zip}

pub zip_one_more : {A B C : Type 0} (f : B → C) (xs : List A) (ys : List B) (x : A) (y : B) → length ys ≡ length xs
    → zip (xs ++ x ∷ []) (map f (ys ++ y ∷ [])) ≡ zip xs (map f ys) ++ (x, f y) ∷ []
zip_one_more f [] [] x y h = refl
zip_one_more f [] (b ∷ bs) x y h = absurd (omega arith)
zip_one_more f (a ∷ rest) [] x y h = absurd (omega arith)
zip_one_more f (a ∷ rest) (b ∷ bs) x y h = ap (λ zs. (a, f b) ∷ zs) (zip_one_more f rest bs x y (omega arith))
