-- Types that are put among ascending ones.
use Rattle.std.proofs.Common.{◌≡◌, ℕ, ◌+◌, ◌<◌, ◌≤◌, List, [], ◌∷◌, ◌++◌, take, drop, length, get_or, refl, sym, ap, ◌∙◌, arith}
use Rattle.std.proofs.lemmas.Bool.{eq-eqb, le-ltb, lt-ltb, ne_eqb}
use Rattle.std.proofs.lemmas.List.{append_assoc, drop_all, drop_more, take-append-drop, take_more}
use Rattle.std.specs.List.{insert}
use Rattle.policy.specs.Opened.{put_type}

module _ (t : ℕ) (xs : List ℕ) (k : ℕ) (d : ℕ) where
  -- the first of those that are left
  abbrev x : ℕ
  x = get_or xs k d

  left : k < length xs → put_type t (drop k xs) ≡ put_type t (x ∷ drop (k + 1) xs)
  left inside = ap (put_type t) (drop_more xs k d inside)

  -- it is below the type
  pub below : k < length xs → x < t → put_type t xs ≡ take k xs ++ put_type t (drop k xs)
      → put_type t xs ≡ take (k + 1) xs ++ put_type t (drop (k + 1) xs)
  below inside less so_far =
      so_far
      ∙ ap (λ us. take k xs ++ us) (left inside ∙ rw (lt-ltb x t less) refl)
      ∙ sym (append_assoc (take k xs) (x ∷ []) (put_type t (drop (k + 1) xs)))
      ∙ ap (λ us. us ++ put_type t (drop (k + 1) xs)) (sym (take_more xs k d inside))

  -- it is the type
  pub there : k < length xs → x ≡ t → put_type t xs ≡ take k xs ++ put_type t (drop k xs) → xs ≡ put_type t xs
  there inside same so_far =
      let no_less : t ≤ x = omega arith in
      sym (so_far
      ∙ ap (λ us. take k xs ++ us) (left inside ∙ rw (le-ltb x t no_less, eq-eqb x t same) refl ∙ sym (drop_more xs k d inside))
      ∙ take-append-drop k xs)

  -- it is above
  pub above : k < length xs → t < x → put_type t xs ≡ take k xs ++ put_type t (drop k xs) → insert xs k t ≡ put_type t xs
  above inside more so_far =
      let no_less : t ≤ x = omega arith in
      let other : x ≡ t → ⊥ = λ same. absurd (omega arith) in
      sym (so_far
      ∙ ap (λ us. take k xs ++ us) (left inside ∙ rw (le-ltb x t no_less, ne_eqb x t other) refl
      ∙ ap (λ us. t ∷ us) (sym (drop_more xs k d inside))))

-- none is left
pub last : (t : ℕ) (xs : List ℕ) (k : ℕ) → length xs ≤ k → put_type t xs ≡ take k xs ++ put_type t (drop k xs)
    → insert xs k t ≡ put_type t xs
last t xs k past so_far =
    sym (so_far ∙ ap (λ us. take k xs ++ us) (ap (put_type t) (drop_all k xs past) ∙ ap (λ us. t ∷ us) (sym (drop_all k xs past))))
