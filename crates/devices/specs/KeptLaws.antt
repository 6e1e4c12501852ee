-- A store sets of the registers that only keep a number the one at its address, and they lie below RAM.
use Rattle.std.proofs.Common.{◌≡◌, ℕ, zero, suc, ◌<◌, true, ltb, List, [], ◌∷◌, Option, Some, None, refl, sym, ap, ◌∙◌, lit<}
use Rattle.std.specs.Prelude.{◌==◌, slice_index, slice_set}
use Rattle.std.specs.List.{list_all}
use Rattle.std.proofs.lemmas.Bool.{and_parts, eqb-true, ltb-true}
use Rattle.std.proofs.lemmas.List.Quantifiers.{position-Some}
use Rattle.base.specs.Ram.{ram_base}
use Rattle.devices.specs.declared.map.TheConstants.{KEPT}
use Rattle.devices.specs.Devices.{kept_place, kept_at, kept_in}

set-other : (kept : List ℕ) (i k value : ℕ) → (i ≡ k → ⊥) → slice_index (slice_set kept i value) k ≡ slice_index kept k
set-other [] i k value apart = refl
set-other (v ∷ vs) zero zero value apart = absurd (apart refl)
set-other (v ∷ vs) zero (suc k) value apart = refl
set-other (v ∷ vs) (suc i) zero value apart = refl
set-other (v ∷ vs) (suc i) (suc k) value apart = set-other vs i k value (λ same. apart (ap suc same))

place-kept_at : (address i : ℕ) → kept_at address ≡ Some i → kept_place i ≡ address
place-kept_at address i at = eqb-true _ _ (position-Some (λ place. place == address) KEPT i 0 at).1

kept_in-elsewhere : (address value k : ℕ) (kept : List ℕ) (at : Option ℕ) → kept_at address ≡ at → (address ≡ kept_place k → ⊥)
    → slice_index (kept_in at value kept) k ≡ slice_index kept k
kept_in-elsewhere address value k kept None is apart = refl
kept_in-elsewhere address value k kept (Some i) is apart =
    set-other kept i k value (λ same. apart (sym (place-kept_at address i is) ∙ ap kept_place same))

-- the others stay
pub kept-elsewhere : (address value k : ℕ) (kept : List ℕ) → (address ≡ kept_place k → ⊥)
    → slice_index (kept_in (kept_at address) value kept) k ≡ slice_index kept k
kept-elsewhere address value k kept apart = kept_in-elsewhere address value k kept (kept_at address) refl apart

below : (places : List ℕ) → list_all (λ place. ltb place ram_base) places ≡ true → (k : ℕ) → slice_index places k < ram_base
below [] low k = lit< tt
below (place ∷ places) low zero = ltb-true place ram_base (and_parts _ _ low).0
below (place ∷ places) low (suc k) = below places (and_parts _ _ low).1 k

pub kept_place-below : (k : ℕ) → kept_place k < ram_base
kept_place-below k = below KEPT refl k
