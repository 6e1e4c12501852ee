-- The tags of all granules, as those of each: one that is changed, zeros, and the first words alone.
use Rattle.std.proofs.Common.{◌≡◌, ℕ, ◌+◌, ◌-◌, ◌*◌, ◌/◌, ◌%◌, ◌<◌, ◌≤◌, Bool, false, cond, eqb, List, length}
use Rattle.std.proofs.Common.{get_or, replicate, take, drop}
use Rattle.std.proofs.Common.{set, sym, ap, ◌∙◌, arith, ⊎_elim}
use Rattle.std.proofs.lemmas.Bool.{cases_eq, cases_lt, eq-eqb, ne_eqb}
use Rattle.std.proofs.lemmas.Nat.Bits.{bit_at-zero}
use Rattle.std.proofs.lemmas.List.{get_or-set_same, get_or-set_other, get_or_past, length-set, length-replicate, get_or-replicate}
use Rattle.std.proofs.lemmas.List.{ext_get_or}
use Rattle.std.proofs.lemmas.List.{length-take-le, get_or-take, drop-take, take-take}
use Rattle.std.proofs.lemmas.List.FromFn.{get_or-map-range_with_len, length-map-range_with_len}
use Rattle.std.specs.Int.{bit_at}
use Rattle.tag_planes.specs.Planes.{tag_at, tags_of}

pub length-tags_of : (planes : List ℕ) → length (tags_of planes) ≡ 64 * length planes
length-tags_of planes = length-map-range_with_len (tag_at planes) 0 (64 * length planes)

-- past the words no granule is tagged
pub tag_at-past : (planes : List ℕ) (k : ℕ) → 64 * length planes ≤ k → tag_at planes k ≡ false
tag_at-past planes k past =
    ap (λ word. eqb (bit_at word (k % 64)) 1) (get_or_past planes (k / 64) 0 (omega arith))
    ∙ ap (λ bit. eqb bit 1) (bit_at-zero (k % 64))

pub get_or-tags_of : (planes : List ℕ) (k : ℕ) → get_or (tags_of planes) k false ≡ tag_at planes k
get_or-tags_of planes k =
    ⊎_elim (λ inside. get_or-map-range_with_len (tag_at planes) 0 (64 * length planes) k k false inside (omega arith))
    (λ past. get_or_past (tags_of planes) k false (omega (arith, length-tags_of planes)) ∙ sym (tag_at-past planes k past))
    (cases_lt k (64 * length planes))

-- one tag changed, and no other
pub tags_of-set : (planes new_planes : List ℕ) (granule : ℕ) (tag : Bool) → granule < 64 * length planes
    → length new_planes ≡ length planes
    → ((k : ℕ) → tag_at new_planes k ≡ cond (eqb k granule) tag (tag_at planes k))
    → tags_of new_planes ≡ set (tags_of planes) granule tag
tags_of-set planes new_planes granule tag inside same each =
    let long = length-tags_of planes in
    let set_long = length-set (tags_of planes) granule tag in
    ext_get_or false (tags_of new_planes) (set (tags_of planes) granule tag) (omega (arith, length-tags_of new_planes, long, set_long))
    (λ k below.
    get_or-tags_of new_planes k ∙ each k
    ∙ ⊎_elim (λ here.
    ap (λ b. cond b tag (tag_at planes k)) (eq-eqb k granule here)
    ∙ sym (ap (λ i. get_or (set (tags_of planes) granule tag) i false) here
    ∙ get_or-set_same (tags_of planes) granule tag false (omega (arith, long)))) (λ other.
    ap (λ b. cond b tag (tag_at planes k)) (ne_eqb k granule other)
    ∙ sym (get_or-set_other (tags_of planes) granule k tag false other ∙ get_or-tags_of planes k)) (cases_eq k granule))

-- zeros tag nothing
pub tags_of-zeros : (n : ℕ) → tags_of (replicate n 0) ≡ replicate (64 * n) false
tags_of-zeros n =
    let long = length-tags_of (replicate n 0) in
    let words = length-replicate {A = ℕ} n 0 in
    ext_get_or false (tags_of (replicate n 0)) (replicate (64 * n) false) (omega (arith, long, words, length-replicate (64 * n) false))
    (λ k below.
    let inside : k / 64 < n = omega (arith, long, words) in
    get_or-tags_of (replicate n 0) k
    ∙ ap (λ word. eqb (bit_at word (k % 64)) 1) (get_or-replicate n (k / 64) 0 0 inside)
    ∙ ap (λ bit. eqb bit 1) (bit_at-zero (k % 64))
    ∙ sym (get_or-replicate (64 * n) k false false (omega (arith, long, words))))

-- the first words have the tags of the first granules
tags_of-take : (planes : List ℕ) (n : ℕ) → n ≤ length planes → tags_of (take n planes) ≡ take (64 * n) (tags_of planes)
tags_of-take planes n room =
    let words = length-take-le n planes room in
    let long = length-tags_of (take n planes) in
    let all = length-take-le (64 * n) (tags_of planes) (omega (arith, length-tags_of planes)) in
    ext_get_or false (tags_of (take n planes)) (take (64 * n) (tags_of planes)) (omega (arith, words, long, all)) (λ k below.
    let inside : k / 64 < n = omega (arith, words, long) in
    get_or-tags_of (take n planes) k
    ∙ ap (λ word. eqb (bit_at word (k % 64)) 1) (get_or-take n planes (k / 64) 0 inside)
    ∙ sym (get_or-take (64 * n) (tags_of planes) k false (omega (arith, words, long)) ∙ get_or-tags_of planes k))

-- a range of granules that lies in the first words is the same there
pub range-of_first_words : (planes : List ℕ) (first end words : ℕ) → words ≤ length planes → end ≤ 64 * words
    → take (end - first) (drop first (tags_of (take words planes))) ≡ take (end - first) (drop first (tags_of planes))
range-of_first_words planes first end words room inside =
    ⊎_elim (λ below.
    let split : 64 * words ≡ first + (64 * words - first) = omega arith in
    ap (λ tags. take (end - first) (drop first tags)) (tags_of-take planes words room ∙ ap (λ n. take n (tags_of planes)) split)
    ∙ ap (take (end - first)) (drop-take first (64 * words - first) (tags_of planes))
    ∙ take-take (end - first) (64 * words - first) (drop first (tags_of planes)) (omega arith)) (λ past.
    let none : end - first ≡ 0 = omega arith in
    ap (λ n. take n (drop first (tags_of (take words planes)))) none ∙ sym (ap (λ n. take n (drop first (tags_of planes))) none))
    (cases_lt first end)
