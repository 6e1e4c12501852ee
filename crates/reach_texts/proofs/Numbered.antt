-- What members say, one after the other.
use Rattle.std.proofs.Common.{◌≡◌, ℕ, zero, suc, ◌+◌, ◌<◌, List, [], ◌∷◌, ◌++◌, drop, length, refl, arith, ap, sym, ◌∙◌}
use Rattle.std.proofs.lemmas.List.{append_assoc}
use Rattle.std.specs.Prelude.{slice_index_or}
use Rattle.cap_bounds.specs.CapValue.{CapValue}
use Rattle.reached.specs.declared.member.Member.{Member}
use Rattle.reached.specs.Order.{Found, seen_member, seen_members}
use Rattle.reach_texts.specs.Text.{numbered}

one_more : (k : ℕ) → suc k + 1 ≡ suc (k + 1)
one_more k = omega arith

module _ {X : Type 0} (value : X → CapValue) (said : ℕ → Found → List ℕ) where
  -- the next of those that are left
  pub next : (xs : List (Member X)) (n k : ℕ) (d : Member X) → k < length xs
      → numbered said n (drop k (seen_members value xs))
      ≡ said n (seen_member value (slice_index_or xs k d)) ++ numbered said (n + 1) (drop (k + 1) (seen_members value xs))
  next [] n k d h = absurd (omega arith)
  next (x ∷ xs) n zero d h = refl
  next (x ∷ xs) n (suc k) d h = rw (one_more k) (next xs n k d (omega arith))

  -- what is written after one more of them
  pub after : (xs : List (Member X)) (n : ℕ) (x : Member X) (text new whole : List ℕ) → n < length xs
      → x ≡ slice_index_or xs n x → new ≡ text ++ said n (seen_member value x)
      → text ++ numbered said n (drop n (seen_members value xs)) ≡ whole
      → new ++ numbered said (n + 1) (drop (n + 1) (seen_members value xs)) ≡ whole
  after xs n x text new whole inside is written rest =
      let here : numbered said n (drop n (seen_members value xs))
      ≡ said n (seen_member value x) ++ numbered said (n + 1) (drop (n + 1) (seen_members value xs)) =
      next xs n n x inside
      ∙ ap (λ y. said n (seen_member value y) ++ numbered said (n + 1) (drop (n + 1) (seen_members value xs))) (sym is) in
      rw written (append_assoc text (said n (seen_member value x)) (numbered said (n + 1) (drop (n + 1) (seen_members value xs)))
      ∙ ap (λ t. text ++ t) (sym here) ∙ rest)
