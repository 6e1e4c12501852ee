-- The first tagged granule from one on: in the rest of its word, or in the first word after it that isn't 0.
use Rattle.std.proofs.Common.{◌≡◌, ℕ, ◌+◌, ◌-◌, ◌*◌, ◌/◌, ◌%◌, ◌^◌, ◌<◌, ◌≤◌, true, false, not, eqb, leb, List, length, get_or, bit_and}
use Rattle.std.proofs.Common.{drop, sym, ap, ◌∙◌, arith, ⊎_elim}
use Rattle.std.proofs.lemmas.Bool.{cases_eq, cases_lt, le-leb, leb-true, eq-eqb, eqb-true, eqb-false, not-true, not-false, and_parts}
use Rattle.std.proofs.lemmas.Nat.Bits.{bit_at-zero, bit_at-trailing_zeros}
use Rattle.std.proofs.lemmas.List.{get_or-drop, length-drop}
use Rattle.std.proofs.lemmas.List.Sums.{fails_before_first, passes_at_first, prefix_len-le-length}
use Rattle.std.specs.Int.{bit_at, trailing_zeros, w64}
use Rattle.tag_planes.specs.Planes.{tag_at, IsNextTag}
use Rattle.tag_planes.proofs.Blocks.{first_set}
use Rattle.tag_planes.proofs.TagBits.{bit_of_both, and_true}

-- the bits of a mask are 1 from a place on
abbrev pub IsMaskFrom : ℕ → ℕ → Type 0
IsMaskFrom place mask = (j : ℕ) → j < 64 → eqb (bit_at mask j) 1 ≡ leb place j

-- a tag at or after a place is a bit of the word under the mask
masked : (planes : List ℕ) (from mask k : ℕ) → IsMaskFrom (from % 64) mask → from ≤ k → k / 64 ≡ from / 64
    → tag_at planes k ≡ eqb (bit_at (bit_and (get_or planes (from / 64) 0) mask) (k % 64)) 1
masked planes from mask k mask_from after same =
    let word = get_or planes (from / 64) 0 in
    ap (λ i. eqb (bit_at (get_or planes i 0) (k % 64)) 1) same
    ∙ sym (bit_of_both word mask (k % 64)
    ∙ and_true (eqb (bit_at word (k % 64)) 1) (eqb (bit_at mask (k % 64)) 1)
    (mask_from (k % 64) (omega arith) ∙ le-leb (from % 64) (k % 64) (omega arith)))

pub here_next : (planes : List ℕ) (from mask : ℕ) → from < 64 * length planes → IsMaskFrom (from % 64) mask
    → 0 < bit_and (get_or planes (from / 64) 0) mask → bit_and (get_or planes (from / 64) 0) mask < 2 ^ 64
    → IsNextTag planes from (64 * (from / 64) + trailing_zeros w64 (bit_and (get_or planes (from / 64) 0) mask))
here_next planes from mask inside mask_from some fits =
    let word = get_or planes (from / 64) 0 in
    let here = bit_and word mask in
    let t = trailing_zeros w64 here in
    let lowest = bit_at-trailing_zeros w64 here some fits in
    let few : t < 64 = lowest.0 in
    let both = and_parts (eqb (bit_at word t) 1) (eqb (bit_at mask t) 1)
    (sym (bit_of_both word mask t) ∙ eq-eqb (bit_at here t) 1 lowest.1) in
    let after : from % 64 ≤ t = leb-true (from % 64) t (sym (mask_from t few) ∙ both.1) in
    let index : (64 * (from / 64) + t) / 64 ≡ from / 64 = omega arith in
    let place : (64 * (from / 64) + t) % 64 ≡ t = omega arith in
    record {
      not_before = omega arith;
      within = omega arith;
      none_between = λ k low high.
          masked planes from mask k mask_from low (omega arith)
          ∙ ap (λ bit. eqb bit 1) (lowest.2 (k % 64) (omega arith));
      tagged = λ below.
          ap (λ i. eqb (bit_at (get_or planes i 0) ((64 * (from / 64) + t) % 64)) 1) index
          ∙ ap (λ i. eqb (bit_at word i) 1) place ∙ both.0;
    }

-- no granule of the rest of a word is tagged where the word under the mask is 0
none_here : (planes : List ℕ) (from mask k : ℕ) → IsMaskFrom (from % 64) mask → bit_and (get_or planes (from / 64) 0) mask ≡ 0
    → from ≤ k → k / 64 ≡ from / 64 → tag_at planes k ≡ false
none_here planes from mask k mask_from none after same =
    masked planes from mask k mask_from after same
    ∙ ap (λ word. eqb (bit_at word (k % 64)) 1) none
    ∙ ap (λ bit. eqb bit 1) (bit_at-zero (k % 64))

-- nor any granule of the words before the first that isn't 0
none_skipped : (planes : List ℕ) (start k : ℕ) → start ≤ k / 64 → k / 64 < start + first_set (drop start planes) → tag_at planes k ≡ false
none_skipped planes start k low high =
    let index : start + (k / 64 - start) ≡ k / 64 = omega arith in
    let fails : not (eqb (get_or (drop start planes) (k / 64 - start) 0) 0) ≡ false =
    fails_before_first (λ word. not (eqb word 0)) (drop start planes) (k / 64 - start) 0 (omega arith) in
    let zero_word : get_or planes (k / 64) 0 ≡ 0 =
    ap (λ i. get_or planes i 0) (sym index) ∙ sym (get_or-drop start planes (k / 64 - start) 0) ∙ eqb-true _ _ (not-false _ fails) in
    ap (λ word. eqb (bit_at word (k % 64)) 1) zero_word ∙ ap (λ bit. eqb bit 1) (bit_at-zero (k % 64))

-- no granule is tagged from one on to the word where the search ended
none_to : (planes : List ℕ) (from mask later k : ℕ) → IsMaskFrom (from % 64) mask → bit_and (get_or planes (from / 64) 0) mask ≡ 0
    → later ≡ from / 64 + 1 + first_set (drop (from / 64 + 1) planes) → from ≤ k → k / 64 < later → tag_at planes k ≡ false
none_to planes from mask later k mask_from none found low high =
    ⊎_elim (λ same. none_here planes from mask k mask_from none low same)
    (λ other. none_skipped planes (from / 64 + 1) k (omega (arith, other)) (omega (arith, found))) (cases_eq (k / 64) (from / 64))

-- the search ends within the words
pub later_within : (planes : List ℕ) (start : ℕ) → start ≤ length planes → start + first_set (drop start planes) ≤ length planes
later_within planes start h =
    omega (arith, prefix_len-le-length (λ word. not (not (eqb word 0))) (drop start planes), length-drop start planes)

pub no_next : (planes : List ℕ) (from mask later : ℕ) → from < 64 * length planes → IsMaskFrom (from % 64) mask
    → bit_and (get_or planes (from / 64) 0) mask ≡ 0 → later ≡ from / 64 + 1 + first_set (drop (from / 64 + 1) planes)
    → later ≡ length planes → IsNextTag planes from (64 * later)
no_next planes from mask later inside mask_from none found last = record {
  not_before = omega arith;
  within = omega arith;
  none_between = λ k low high. none_to planes from mask later k mask_from none found low (omega arith);
  tagged = λ below. absurd (omega arith);
}

-- the first word after it that isn't 0
pub later_word : (planes : List ℕ) (start later : ℕ) → later ≡ start + first_set (drop start planes) → later < length planes
    → 0 < get_or planes later 0
later_word planes start later found below =
    let passes : not (eqb (get_or (drop start planes) (first_set (drop start planes)) 0) 0) ≡ true =
    passes_at_first (λ word. not (eqb word 0)) (drop start planes) 0 (omega (arith, length-drop start planes)) in
    let same : get_or planes later 0 ≡ get_or (drop start planes) (first_set (drop start planes)) 0 =
    ap (λ i. get_or planes i 0) found ∙ sym (get_or-drop start planes (first_set (drop start planes)) 0) in
    omega (arith, same, eqb-false _ _ (not-true _ passes))

pub later_next : (planes : List ℕ) (from mask later : ℕ) → from < 64 * length planes → IsMaskFrom (from % 64) mask
    → bit_and (get_or planes (from / 64) 0) mask ≡ 0 → later ≡ from / 64 + 1 + first_set (drop (from / 64 + 1) planes)
    → later < length planes → get_or planes later 0 < 2 ^ 64
    → IsNextTag planes from (64 * later + trailing_zeros w64 (get_or planes later 0))
later_next planes from mask later inside mask_from none found below fits =
    let word = get_or planes later 0 in
    let t = trailing_zeros w64 word in
    let lowest = bit_at-trailing_zeros w64 word (later_word planes (from / 64 + 1) later found below) fits in
    let few : t < 64 = lowest.0 in
    let index : (64 * later + t) / 64 ≡ later = omega arith in
    let place : (64 * later + t) % 64 ≡ t = omega arith in
    record {
      not_before = omega arith;
      within = omega arith;
      none_between = λ k low high.
          ⊎_elim (λ before. none_to planes from mask later k mask_from none found low before)
          (λ at.
          let same : k / 64 ≡ later = omega arith in
          ap (λ i. eqb (bit_at (get_or planes i 0) (k % 64)) 1) same
          ∙ ap (λ bit. eqb bit 1) (lowest.2 (k % 64) (omega arith))) (cases_lt (k / 64) later);
      tagged = λ inside_too.
          ap (λ i. eqb (bit_at (get_or planes i 0) ((64 * later + t) % 64)) 1) index
          ∙ ap (λ i. eqb (bit_at word i) 1) place ∙ eq-eqb _ _ lowest.1;
    }
