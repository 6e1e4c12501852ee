-- The set of tagged granules, from the truth value of each granule.
use Rattle.std.proofs.Common.{◌≡◌, ℕ, zero, suc, ◌+◌, ◌*◌, ◌<◌, Bool, true, false, cond, not, eqb, ◌&&◌, ◌||◌, List, [], ◌∷◌, length}
use Rattle.std.proofs.Common.{get_or, set, replicate, refl, sym, ap, ◌∙◌, arith, inl, inr}
use Rattle.std.proofs.lemmas.Bool.{false≢true, cases_eq, eq-eqb, ne_eqb}
use Rattle.std.specs.Ordering.{nat_cmp}
use Rattle.std.specs.Cmp.{nat_cmp_total, unsigned_tied}
use Rattle.std.specs.FinSet as finite
use Rattle.tagged_memory.specs.Layout.{tags_from}

and_with_true : (x : Bool) → x ≡ (x && true)
and_with_true true = refl
and_with_true false = refl

or_after_false : (x y : Bool) → y ≡ ((x && false) || y)
or_after_false true y = refl
or_after_false false y = refl

pub contains_cons : (a : ℕ) (t : Bool) (ts : List Bool) (q : ℕ)
    → finite.contains (tags_from a (t ∷ ts)) q ≡ ((eqb q a && t) || finite.contains (tags_from (a + 16) ts) q)
unfolding tags_from
contains_cons a true ts q =
    finite.contains-insert nat_cmp_total (tags_from (a + 16) ts) a q
    ∙ ap (λ b. b || finite.contains (tags_from (a + 16) ts) q) (unsigned_tied q a ∙ and_with_true (eqb q a))
contains_cons a false ts q = or_after_false (eqb q a) (finite.contains (tags_from (a + 16) ts) q)

contains_nil : (a q : ℕ) → finite.contains (tags_from a []) q ≡ false
unfolding tags_from
contains_nil a q = finite.contains-empty nat_cmp q

here : (a : ℕ) (t : Bool) (ts : List Bool) (q : ℕ) → q ≡ a
    → finite.contains (tags_from a (t ∷ ts)) q ≡ (t || finite.contains (tags_from (a + 16) ts) q)
here a t ts q e = contains_cons a t ts q ∙ ap (λ b. (b && t) || finite.contains (tags_from (a + 16) ts) q) (eq-eqb q a e)

there : (a : ℕ) (t : Bool) (ts : List Bool) (q : ℕ) → (q ≡ a → ⊥)
    → finite.contains (tags_from a (t ∷ ts)) q ≡ finite.contains (tags_from (a + 16) ts) q
there a t ts q n = contains_cons a t ts q ∙ ap (λ b. (b && t) || finite.contains (tags_from (a + 16) ts) q) (ne_eqb q a n)

-- no granule is below the first
pub contains_below : (a : ℕ) (ts : List Bool) (q : ℕ) → q < a → finite.contains (tags_from a ts) q ≡ false
contains_below a [] q h = contains_nil a q
contains_below a (t ∷ ts) q h = there a t ts q (λ e. omega arith) ∙ contains_below (a + 16) ts q (omega arith)

or_last_false : (t x : Bool) → x ≡ false → (t || x) ≡ t
or_last_false true x e = refl
or_last_false false x e = e

here_alone : (a : ℕ) (t : Bool) (ts : List Bool) (q : ℕ) → q ≡ a → finite.contains (tags_from a (t ∷ ts)) q ≡ t
here_alone a t ts q e = here a t ts q e ∙ or_last_false t _ (contains_below (a + 16) ts q (omega arith))

-- a granule is in the set where its truth value is true
pub contains_at : (a : ℕ) (ts : List Bool) (k q : ℕ) → q ≡ a + 16 * k → finite.contains (tags_from a ts) q ≡ get_or ts k false
contains_at a [] k q e = contains_nil a q
contains_at a (t ∷ ts) zero q e = here_alone a t ts q (omega arith)
contains_at a (t ∷ ts) (suc k) q e = there a t ts q (λ f. omega arith) ∙ contains_at (a + 16) ts k q (omega arith)

-- and nothing else is
pub place_of_contained : (a : ℕ) (ts : List Bool) (q : ℕ) → finite.contains (tags_from a ts) q ≡ true
    → (k : ℕ) × (q ≡ a + 16 * k) × (k < length ts)
place_of_contained a [] q e = absurd (false≢true (sym (contains_nil a q) ∙ e))
place_of_contained a (t ∷ ts) q e = elim (cases_eq q a) [
  | inl same ↦ (0, omega arith, omega arith)
  | inr other ↦
      let later : (k : ℕ) × (q ≡ a + 16 + 16 * k) × (k < length ts) = place_of_contained (a + 16) ts q (sym (there a t ts q other) ∙ e) in
      (later.0 + 1, omega arith, omega arith)
]

kept : (a : ℕ) (ts us : List Bool) (p : ℕ → Bool) → length us ≡ length ts
    → ((k : ℕ) → get_or us k false ≡ (get_or ts k false && p (a + 16 * k))) → (q : ℕ)
    → finite.contains (tags_from a us) q ≡ (finite.contains (tags_from a ts) q && p q)
kept a [] [] p n each q = contains_nil a q ∙ ap (λ b. b && p q) (sym (contains_nil a q))
kept a [] (u ∷ us) p n each q = absurd (omega arith)
kept a (t ∷ ts) [] p n each q = absurd (omega arith)
kept a (t ∷ ts) (u ∷ us) p n each q = elim (cases_eq q a) [
  | inl same ↦
      let first : u ≡ (t && p (a + 16 * 0)) = each 0 in
      let place : a + 16 * 0 ≡ q = omega arith in
      here_alone a u us q same ∙ first ∙ ap (λ x. t && p x) place ∙ ap (λ b. b && p q) (sym (here_alone a t ts q same))
  | inr other ↦
      there a u us q other
      ∙ kept (a + 16) ts us p (omega arith)
      (λ k. let place : a + 16 * suc k ≡ a + 16 + 16 * k = omega arith in each (suc k) ∙ ap (λ x. get_or ts k false && p x) place) q
      ∙ ap (λ b. b && p q) (sym (there a t ts q other))
]

-- the truth values that pass a test of their addresses make the set retained by it
pub tags_from-retained : (a : ℕ) (ts us : List Bool) (p : ℕ → Bool) → length us ≡ length ts
    → ((k : ℕ) → get_or us k false ≡ (get_or ts k false && p (a + 16 * k)))
    → tags_from a us ≡ finite.retain (tags_from a ts) p
tags_from-retained a ts us p n each =
    finite.same_set nat_cmp_total finite.nat_cmp-IsAntisymmetric _ _ (λ q. kept a ts us p n each q
    ∙ sym (finite.contains-retain (tags_from a ts) p q (λ x tie. ap p (sym (finite.nat_cmp-IsAntisymmetric q x tie)))))

changed : (a : ℕ) (ts : List Bool) (i : ℕ) (b : Bool) → i < length ts → (q : ℕ)
    → finite.contains (tags_from a (set ts i b)) q ≡ cond (eqb q (a + 16 * i)) b (finite.contains (tags_from a ts) q)
changed a [] i b h q = absurd (omega arith)
changed a (t ∷ ts) zero b h q = elim (cases_eq q a) [
  | inl same ↦
      here_alone a b ts q same
      ∙ sym (ap (λ c. cond c b (finite.contains (tags_from a (t ∷ ts)) q)) (eq-eqb q (a + 16 * 0) (omega arith)))
  | inr other ↦
      there a b ts q other ∙ sym (there a t ts q other)
      ∙ sym (ap (λ c. cond c b (finite.contains (tags_from a (t ∷ ts)) q))
      (ne_eqb q (a + 16 * 0) (λ e. omega (arith, other (omega arith)))))
]
changed a (t ∷ ts) (suc i) b h q = elim (cases_eq q a) [
  | inl same ↦
      here_alone a t (set ts i b) q same ∙ sym (here_alone a t ts q same)
      ∙ sym (ap (λ c. cond c b (finite.contains (tags_from a (t ∷ ts)) q)) (ne_eqb q (a + 16 * suc i) (λ e. omega arith)))
  | inr other ↦
      let place : a + 16 + 16 * i ≡ a + 16 * suc i = omega arith in
      there a t (set ts i b) q other ∙ changed (a + 16) ts i b (omega arith) q
      ∙ ap (λ x. cond (eqb q x) b (finite.contains (tags_from (a + 16) ts) q)) place
      ∙ ap (λ c. cond (eqb q (a + 16 * suc i)) b c) (sym (there a t ts q other))
]

or_is_cond : (x y : Bool) → cond x true y ≡ (x || y)
or_is_cond true y = refl
or_is_cond false y = refl

and_is_cond : (x y : Bool) → cond x false y ≡ (not x && y)
and_is_cond true y = refl
and_is_cond false y = refl

-- a granule that is tagged comes into the set
pub tags_from-inserted : (a : ℕ) (ts : List Bool) (i q : ℕ) → i < length ts → a + 16 * i ≡ q
    → tags_from a (set ts i true) ≡ finite.insert (tags_from a ts) q
tags_from-inserted a ts i q h at =
    finite.same_set nat_cmp_total finite.nat_cmp-IsAntisymmetric _ _ (λ x. changed a ts i true h x
    ∙ ap (λ y. cond (eqb x y) true (finite.contains (tags_from a ts) x)) at
    ∙ or_is_cond (eqb x q) (finite.contains (tags_from a ts) x)
    ∙ sym (finite.contains-insert nat_cmp_total (tags_from a ts) q x
    ∙ ap (λ b. b || finite.contains (tags_from a ts) x) (unsigned_tied x q)))

-- and one that loses its tag leaves it
pub tags_from-removed : (a : ℕ) (ts : List Bool) (i q : ℕ) → i < length ts → a + 16 * i ≡ q
    → tags_from a (set ts i false) ≡ finite.remove (tags_from a ts) q
tags_from-removed a ts i q h at =
    finite.same_set nat_cmp_total finite.nat_cmp-IsAntisymmetric _ _ (λ x. changed a ts i false h x
    ∙ ap (λ y. cond (eqb x y) false (finite.contains (tags_from a ts) x)) at
    ∙ and_is_cond (eqb x q) (finite.contains (tags_from a ts) x)
    ∙ sym (finite.contains-remove nat_cmp_total (tags_from a ts) q x
    ∙ ap (λ b. not b && finite.contains (tags_from a ts) x) (unsigned_tied x q)))

-- where no truth value is true, no granule is tagged
pub tags_from-replicate : (a n : ℕ) → tags_from a (replicate n false) ≡ finite.empty
unfolding tags_from
tags_from-replicate a zero = refl
tags_from-replicate a (suc n) = tags_from-replicate (a + 16) n
