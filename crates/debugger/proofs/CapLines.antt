-- The lines of tagged granules.
use Rattle.std.proofs.Common.{◌≡◌, ℕ, suc, ◌+◌, ◌*◌, ◌/◌, ◌%◌, ◌≤◌, ◌&&◌, true, None, List, ◌∷◌, ◌++◌, length, nat_le, nat_lt, refl, sym}
use Rattle.std.proofs.Common.{ap, ◌∙◌, subst, arith}
use Rattle.std.proofs.lemmas.Bool.{eq-eqb, and_parts}
use Rattle.std.proofs.lemmas.List.{append_assoc, length-map}
use Rattle.std.proofs.lemmas.List.Elements.{filter_passes}
use Rattle.std.proofs.lemmas.List.Sums.{length-filter, count_by-le-length}
use Rattle.std.proofs.lemmas.List.FromFn.{length-range_with_len}
use Rattle.std.specs.List.{All, flat_map, range_with_len}
use Rattle.base.specs.Ram.{ram_base}
use Rattle.tagged_memory.specs.Memory.{Memory, IsMemory, has_tag, is_in_ram, place_fault, granules, tagged_between}

-- a tagged granule may be read
pub no_fault : (m : Memory) (granule : ℕ) → IsMemory m → has_tag m granule ≡ true → place_fault m granule 16 ≡ None
unfolding place_fault
no_fault m granule sound tagged =
    let inside : is_in_ram m granule 16 ≡ true = sound.granules_in_ram granule tagged in
    rw (eq-eqb (granule % 16) 0 (sound.granules_aligned granule tagged), inside) refl

-- the granules that are found tagged are tagged, and are at most all
pub all_tagged : (m : Memory) (from to : ℕ) → All (λ granule. has_tag m granule ≡ true) (tagged_between m from to)
unfolding tagged_between
all_tagged m from to = λ k d below.
    (and_parts _ _ (filter_passes (λ a. has_tag m a && (nat_le from a && nat_lt a to)) (granules m) k d below)).0

pub few_tagged : (m : Memory) (from to : ℕ) (found : List ℕ) → found ≡ tagged_between m from to
    → length found ≤ length m.bytes / 16
unfolding tagged_between
few_tagged m from to found e =
    omega (
      arith,
      ap length e,
      length-filter (λ a. has_tag m a && (nat_le from a && nat_lt a to)) (granules m),
      count_by-le-length (λ a. has_tag m a && (nat_le from a && nat_lt a to)) (granules m),
      length-map (range_with_len 0 (length m.bytes / 16)) (λ k. ram_base + 16 * k),
      length-range_with_len 0 (length m.bytes / 16),
    )

-- of a list's first element, and of those after it
pub All-head : {X : Type 0} (P : X → Type 0) (x : X) (xs ys : List X) → ys ≡ x ∷ xs → All P ys → P x
All-head P x xs ys e all = subst (All P) e all 0 x (omega arith)

pub All-tail : {X : Type 0} (P : X → Type 0) (x : X) (xs ys : List X) → ys ≡ x ∷ xs → All P ys → All P xs
All-tail P x xs ys e all = λ k d below. subst (All P) e all (suc k) d (omega arith)

-- one line more
pub one_line_more : (line : ℕ → List ℕ) (text more all : List ℕ) (x : ℕ) (xs ys : List ℕ) → ys ≡ x ∷ xs → more ≡ text ++ line x
    → text ++ flat_map line ys ≡ all
    → more ++ flat_map line xs ≡ all
one_line_more line text more all x xs ys e put before =
    ap (λ t. t ++ flat_map line xs) put
    ∙ append_assoc text (line x) (flat_map line xs)
    ∙ ap (λ zs. text ++ flat_map line zs) (sym e)
    ∙ before

-- before the first line
pub no_line_yet : (line : ℕ → List ℕ) (text new : List ℕ) (found all : List ℕ) → new ≡ text → found ≡ all
    → new ++ flat_map line found ≡ text ++ flat_map line all
no_line_yet line text new found all same e = ap (λ t. t ++ flat_map line found) same ∙ ap (λ xs. text ++ flat_map line xs) e
