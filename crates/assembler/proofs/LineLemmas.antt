-- A text, cut at its first line feed.
use Rattle.std.proofs.Common.{◌≡◌, ℕ, ◌+◌, ◌<◌, ◌≤◌, ◌==◌, false, List, [], ◌∷◌, ◌++◌, length, get_or, take, drop, All, sym, ap, refl, ◌∙◌}
use Rattle.std.proofs.Common.{take-append-drop, take_all, arith}
use Rattle.std.specs.List.{slice_split}
use Rattle.std.proofs.lemmas.List.{drop_more}
use Rattle.std.proofs.lemmas.List.Splits.{slice_split_at, slice_split_none}
use Rattle.std.proofs.lemmas.Grind.{common_steps}

abbrev pub Lacks : List ℕ → ℕ → Type 0
Lacks xs i = (k : ℕ) → k < i → (get_or xs k 0 == 10) ≡ false

none_before : (xs : List ℕ) (i : ℕ) → i ≤ length xs → Lacks xs i → All (λ x. (x == 10) ≡ false) (take i xs)
none_before xs i le h k d lt = let small : k < i = grind (arith, common_steps) in let f = h k small in grind (arith, common_steps)

pub split_at : (xs : List ℕ) (i : ℕ) → i < length xs → get_or xs i 0 ≡ 10 → Lacks xs i
    → slice_split (λ b. b == 10) xs ≡ take i xs ∷ slice_split (λ b. b == 10) (drop (i + 1) xs)
split_at xs i lt read h =
    let parts : xs ≡ take i xs ++ 10 ∷ drop (i + 1) xs =
    sym (take-append-drop i xs) ∙ ap (λ zs. take i xs ++ zs) (drop_more xs i 0 lt ∙ ap (λ z. z ∷ drop (i + 1) xs) read) in
    ap (slice_split (λ b. b == 10)) parts
    ∙ slice_split_at (λ b. b == 10) (take i xs) 10 (drop (i + 1) xs) (none_before xs i (omega arith) h) refl

pub split_none : (xs : List ℕ) → Lacks xs (length xs) → slice_split (λ b. b == 10) xs ≡ xs ∷ []
split_none xs h =
    slice_split_none (λ b. b == 10) xs (rw (take_all (length xs) xs (omega arith)) at (none_before xs (length xs) (omega arith) h))
