-- Words, cut off a line one after the other.
use Rattle.std.proofs.Common.{◌≡◌, ℕ, suc, ◌+◌, ◌<◌, ◌==◌, Bool, true, false, not, List, [], ◌∷◌, length, take, drop, refl, ap, sym, ◌∙◌}
use Rattle.std.proofs.Common.{subst, arith}
use Rattle.std.specs.Prelude.{filter}
use Rattle.std.proofs.lemmas.Bool.Decides.{nat_tests}
use Rattle.std.specs.List.{prefix_len, slice_split}
use Rattle.asm_lines.specs.Text.{is_blank}
use Rattle.asm_lines.specs.Words.{words_of}

abbrev pub kept : List (List ℕ) → List (List ℕ)
kept ws = filter (λ word. not (length word == 0)) ws

one_more : (n : ℕ) → 1 + n ≡ suc n
one_more n = omega arith

not_zero : (n : ℕ) → (suc n == 0) ≡ false
not_zero n = grind (arith, nat_tests)

module _ (p : ℕ → Bool) where
  abbrev pub run : List ℕ → ℕ
  run xs = prefix_len (λ b. not (p b)) xs

  abbrev pub text : List ℕ → List ℕ
  text xs = drop (prefix_len p xs) xs

  -- the first piece, and what the others keep
  record Cut (xs : List ℕ) : Type 0 where
    rest : List (List ℕ)
    first : slice_split p xs ≡ take (run xs) xs ∷ rest
    others : kept rest ≡ kept (slice_split p (drop (run xs) xs))

  cut_at : (x : ℕ) (xs : List ℕ) → Cut xs → (b : Bool) → p x ≡ b → Cut (x ∷ xs)
  cut_at x xs c true e = record { rest = slice_split p xs; first = rw e refl; others = rw (e, e) refl }
  cut_at x xs c false e = record { rest = c.rest; first = rw (e, one_more, c.first) refl; others = rw (e, one_more) c.others }

  cut : (xs : List ℕ) → Cut xs
  cut [] = record { rest = []; first = refl; others = refl }
  cut (x ∷ xs) = cut_at x xs (cut xs) (p x) refl

  abbrev Found : List ℕ → List ℕ → Type 0
  Found xs t = kept (slice_split p xs) ≡ take (run t) t ∷ kept (slice_split p (drop (run t) t))

  solid : (x : ℕ) (xs : List ℕ) → p x ≡ false → Found (x ∷ xs) (x ∷ xs)
  solid x xs e =
      let c = cut (x ∷ xs) in
      rw c.first
      (rw (e, one_more, not_zero (length (take (run xs) xs))) (ap (λ ws. (x ∷ take (run xs) xs) ∷ ws) (c.others ∙ rw (e, one_more) refl)))

  text_blank : (x : ℕ) (xs : List ℕ) → p x ≡ true → text (x ∷ xs) ≡ text xs
  text_blank x xs e = rw (e, one_more) refl

  text_solid : (x : ℕ) (xs : List ℕ) → p x ≡ false → text (x ∷ xs) ≡ x ∷ xs
  text_solid x xs e = rw e refl

  found_at : (x : ℕ) (xs : List ℕ) → (0 < length (text xs) → Found xs (text xs)) → (b : Bool) → p x ≡ b
      → 0 < length (text (x ∷ xs)) → Found (x ∷ xs) (text (x ∷ xs))
  found_at x xs ih true e h =
      let step : Found (x ∷ xs) (text xs) = rw e (ih (subst (λ t. 0 < length t) (text_blank x xs e) h)) in
      subst (λ t. Found (x ∷ xs) t) (sym (text_blank x xs e)) step
  found_at x xs ih false e h = subst (λ t. Found (x ∷ xs) t) (sym (text_solid x xs e)) (solid x xs e)

  pub found : (xs : List ℕ) → 0 < length (text xs) → Found xs (text xs)
  found [] h = absurd (omega arith)
  found (x ∷ xs) h = found_at x xs (found xs) (p x) refl h

  none_at : (x : ℕ) (xs : List ℕ) → (length (text xs) ≡ 0 → kept (slice_split p xs) ≡ []) → (b : Bool) → p x ≡ b
      → length (text (x ∷ xs)) ≡ 0 → kept (slice_split p (x ∷ xs)) ≡ []
  none_at x xs ih true e h = rw e (ih (ap length (sym (text_blank x xs e)) ∙ h))
  none_at x xs ih false e h = absurd (omega (arith, ap length (text_solid x xs e)))

  pub none : (xs : List ℕ) → length (text xs) ≡ 0 → kept (slice_split p xs) ≡ []
  none [] h = refl
  none (x ∷ xs) h = none_at x xs (none xs) (p x) refl h

-- the same of a line's words
pub found_word : (line t : List ℕ) → t ≡ drop (prefix_len is_blank line) line → 0 < length t
    → words_of line ≡ take (prefix_len (λ b. not (is_blank b)) t) t ∷ words_of (drop (prefix_len (λ b. not (is_blank b)) t) t)
found_word line t e h = rw e (found is_blank line (rw e at h))

pub no_word : (line : List ℕ) → length (drop (prefix_len is_blank line) line) ≡ 0 → words_of line ≡ []
no_word line h = none is_blank line h
