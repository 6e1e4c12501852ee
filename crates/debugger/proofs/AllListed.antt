-- What holds of all values of a list holds of the first, and of those after it.
use Rattle.std.proofs.Common.{◌≡◌, ℕ, zero, suc, ◌≤◌, Bool, true, List, [], ◌∷◌, length, get_or, take, drop, refl, arith}
use Rattle.std.proofs.lemmas.Bool.{and_parts, and_from}
use Rattle.std.specs.List.{list_all}

none : 1 ≤ 0 → ⊥
none some = omega arith

pub all-first : {A : Type 0} (P : A → Bool) (d : A) (xs : List A) → 1 ≤ length xs → list_all P xs ≡ true → P (get_or xs 0 d) ≡ true
all-first P d [] some all = absurd (none some)
all-first P d (x ∷ xs) some all = (and_parts (P x) (list_all P xs) all).0

all-take : {A : Type 0} (P : A → Bool) (n : ℕ) (xs : List A) → list_all P xs ≡ true → list_all P (take n xs) ≡ true
all-take P zero xs all = refl
all-take P (suc n) [] all = refl
all-take P (suc n) (x ∷ xs) all =
    let parts = and_parts (P x) (list_all P xs) all in
    and_from (P x) (list_all P (take n xs)) parts.0 (all-take P n xs parts.1)

pub all-rest : {A : Type 0} (P : A → Bool) (n : ℕ) (xs : List A) → list_all P xs ≡ true → list_all P (take n (drop 1 xs)) ≡ true
all-rest P n [] all = all-take P n [] refl
all-rest P n (x ∷ xs) all = all-take P n xs (and_parts (P x) (list_all P xs) all).1
