-- A look at the tagged granules of a range finds each of them.
use Rattle.std.proofs.Common.{◌≡◌, ℕ, zero, suc, ◌+◌, ◌-◌, ◌*◌, ◌/◌, ◌%◌, ◌^◌, ◌<◌, ◌≤◌, Bool, true, ◌&&◌, nat_le, nat_lt}
use Rattle.std.proofs.Common.{None, List, [], ◌∷◌}
use Rattle.std.proofs.Common.{length, get_or, refl, sym, ap, ◌∙◌, subst, arith, inl, inr, ◌⊎◌}
use Rattle.std.proofs.lemmas.Bool.{cond_both, cond-true, and_from, and_parts, le-leb, lt-ltb, eq-eqb}
use Rattle.std.proofs.lemmas.List.Elements.{Contains-append_right, filter_passes}
use Rattle.std.proofs.lemmas.List.FromFn.{get_or-map-range_with_len, length-map-range_with_len}
use Rattle.std.specs.List.{All, Contains, filter}
use Rattle.base.specs.Ram.{ram_base}
use Rattle.tagged_memory.specs.Memory.{Memory, IsMemory, is_in_ram, has_tag, place_fault, granules, tagged_between}
use Rattle.tagged_memory.specs.MemoryLaws.{in_ram}

-- a tagged granule may be read
pub tagged-readable : (m : Memory) (granule : ℕ) → IsMemory m → has_tag m granule ≡ true → place_fault m granule 16 ≡ None
unfolding place_fault
tagged-readable m granule sound tagged =
    let inside : is_in_ram m granule 16 ≡ true = sound.granules_in_ram granule tagged in
    rw (eq-eqb (granule % 16) 0 (sound.granules_aligned granule tagged), inside) refl

-- ---- elements

none-below : (k : ℕ) → k < 0 → ⊥
none-below k below = omega arith

contains-later : {X : Type 0} (y : X) (ys : List X) (x : X) → Contains ys x → Contains (y ∷ ys) x
contains-later y ys x there = Contains-append_right (y ∷ []) ys x there

filter-at : {X : Type 0} (p : X → Bool) (xs : List X) (x : X) (k : ℕ) → k < length xs → get_or xs k x ≡ x → p x ≡ true
    → Contains (filter p xs) x
filter-at p [] x k below at passes = absurd (none-below k below)
filter-at p (y ∷ ys) x zero below at passes =
    subst (λ zs. Contains zs x) (sym (cond-true (p y) (y ∷ filter p ys) (filter p ys) (ap p at ∙ passes))) (0, omega arith, at)
filter-at p (y ∷ ys) x (suc k) below at passes =
    let rest : Contains (filter p ys) x = filter-at p ys x k (omega arith) at passes in
    cond_both (p y) (y ∷ filter p ys) (filter p ys) (λ zs. Contains zs x) (λ _. contains-later y (filter p ys) x rest) (λ _. rest)

-- an element is the first, or one of the others
contains-cases : {X : Type 0} (y : X) (ys : List X) (x : X) (k : ℕ) → k < length (y ∷ ys) → get_or (y ∷ ys) k x ≡ x
    → (y ≡ x) ⊎ Contains ys x
contains-cases y ys x zero below at = inl at
contains-cases y ys x (suc k) below at = inr (k, omega arith, at)

none-there : {X : Type 0} (x : X) → Contains [] x → ⊥
none-there x there = let below : there.0 < 0 = there.1 in omega arith

-- ---- granules

granule-there : (m : Memory) → IsMemory m → (granule : ℕ) → has_tag m granule ≡ true → Contains (granules m) granule
granule-there m sound granule tagged =
    let place = in_ram m granule 16 (sound.granules_in_ram granule tagged) in
    let aligned = sound.granules_aligned granule tagged in
    let k : ℕ = (granule - ram_base) / 16 in
    let few : k < length m.bytes / 16 = omega arith in
    let same : ram_base + 16 * k ≡ granule = omega arith in
    let many : length (granules m) ≡ length m.bytes / 16 = length-map-range_with_len (λ n. ram_base + 16 * n) 0 (length m.bytes / 16) in
    let first : 0 + k ≡ k = omega arith in (
      k,
      omega arith,
      get_or-map-range_with_len (λ n. ram_base + 16 * n) 0 (length m.bytes / 16) k k granule few first ∙ same,
    )

pub tagged-there : (m : Memory) → IsMemory m → (from to granule : ℕ) → has_tag m granule ≡ true → from ≤ granule → granule < to
    → Contains (tagged_between m from to) granule
unfolding tagged_between
tagged-there m sound from to granule tagged low high =
    let there = granule-there m sound granule tagged in
    filter-at (λ a. has_tag m a && (nat_le from a && nat_lt a to)) (granules m) granule there.0 there.1 there.2
    (and_from _ _ tagged (and_from _ _ (le-leb from granule low) (lt-ltb granule to high)))

-- ---- one after the other

-- of what was found, each is left to be looked at, or something holds of it
abbrev pub AreLookedAt : (ℕ → Type 0) → List ℕ → List ℕ → Type 0
AreLookedAt P all rest = (a : ℕ) → Contains all a → Contains rest a ⊎ P a

module _ (P : ℕ → Type 0) (all : List ℕ) where
  pub looked-none : (rest : List ℕ) → rest ≡ all → AreLookedAt P all rest
  looked-none rest same = λ a there. inl (subst (λ xs. Contains xs a) (sym same) there)

  pub looked-more : (x : ℕ) (xs rest : List ℕ) → rest ≡ x ∷ xs → P x → AreLookedAt P all rest → AreLookedAt P all xs
  looked-more x xs rest same holds looked = λ a there. elim (looked a there) [
    | inl left ↦
        let left' : Contains (x ∷ xs) a = subst (λ ys. Contains ys a) same left in
        elim (contains-cases x xs a left'.0 left'.1 left'.2) [ inl here ↦ inr (subst P here holds) | inr later ↦ inl later ]
    | inr done ↦ inr done
  ]

  pub looked-all : (rest : List ℕ) → rest ≡ [] → AreLookedAt P all rest → (a : ℕ) → Contains all a → P a
  looked-all rest none looked = λ a there. elim (looked a there) [
    | inl left ↦ absurd (none-there a (subst (λ ys. Contains ys a) none left))
    | inr done ↦ done
  ]

-- the granules that are found are tagged
abbrev pub AreTagged : Memory → List ℕ → Type 0
AreTagged m found = All (λ granule. has_tag m granule ≡ true) found

pub tagged-all : (m : Memory) (from to : ℕ) (found : List ℕ) → found ≡ tagged_between m from to → AreTagged m found
unfolding tagged_between
tagged-all m from to found same =
    subst (AreTagged m) (sym same) (λ k d below.
    (and_parts _ _ (filter_passes (λ a. has_tag m a && (nat_le from a && nat_lt a to)) (granules m) k d below)).0)

pub tagged-first : (m : Memory) (x : ℕ) (xs found : List ℕ) → found ≡ x ∷ xs → AreTagged m found → has_tag m x ≡ true
tagged-first m x xs found same are = subst (AreTagged m) same are 0 x (omega arith)

pub tagged-others : (m : Memory) (x : ℕ) (xs found : List ℕ) → found ≡ x ∷ xs → AreTagged m found → AreTagged m xs
tagged-others m x xs found same are = λ k d below. subst (AreTagged m) same are (suc k) d (omega arith)

pub below-end : (m : Memory) → IsMemory m → (granule : ℕ) → has_tag m granule ≡ true → granule + 16 < 2 ^ 63
below-end m sound granule tagged =
    let place = in_ram m granule 16 (sound.granules_in_ram granule tagged) in
    omega (arith, sound.whole_pages, sound.not_too_many)
