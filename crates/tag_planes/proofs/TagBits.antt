-- The tags of granules, from the bits of words.
use Rattle.std.proofs.Common.{◌≡◌, ◌≢◌, ℕ, ◌-◌, ◌*◌, ◌/◌, ◌%◌, ◌^◌, ◌<◌, Bool, true, false, cond, eqb, ltb, leb, List, length}
use Rattle.std.proofs.Common.{get_or}
use Rattle.std.proofs.Common.{set, min, max, bit_and, bit_or, ◌&&◌, ◌||◌, refl, sym, ap, ◌∙◌, arith, ⊎_elim}
use Rattle.std.proofs.lemmas.Bool.{cases_eq, cases_lt, eq-eqb, ne_eqb, lt-ltb, le-ltb, le-leb, lt-leb}
use Rattle.std.proofs.lemmas.Bool.Decides.{nat_tests}
use Rattle.std.proofs.Math.Pow.{pow-lt}
use Rattle.std.proofs.lemmas.Nat.Bits.{bit_at-lt, bit_at_and, bit_at_or, bit_at_ones, bit_at_ones_above, ones_shl}
use Rattle.std.proofs.lemmas.Nat.Bits.{bit_at_set_same, bit_at_set_other, bit_at_clear_same, bit_at_clear_other, bit_at_mask_below}
use Rattle.std.proofs.lemmas.Nat.Bits.{bit_at_mask_inside}
use Rattle.std.proofs.lemmas.List.{get_or-set_same, get_or-set_other}
use Rattle.std.specs.Int.{bit_at, bit_not, w64}
use Rattle.tag_planes.specs.Planes.{tag_at}

-- a word that is set has the tags of its own granules
pub tag_at-set_here : (planes : List ℕ) (index word k : ℕ) → index < length planes → k / 64 ≡ index
    → tag_at (set planes index word) k ≡ eqb (bit_at word (k % 64)) 1
tag_at-set_here planes index word k inside here =
    ap (λ i. eqb (bit_at (get_or (set planes index word) i 0) (k % 64)) 1) here
    ∙ ap (λ w. eqb (bit_at w (k % 64)) 1) (get_or-set_same planes index word 0 inside)

pub tag_at-set_elsewhere : (planes : List ℕ) (index word k : ℕ) → k / 64 ≢ index → tag_at (set planes index word) k ≡ tag_at planes k
tag_at-set_elsewhere planes index word k other =
    ap (λ w. eqb (bit_at w (k % 64)) 1) (get_or-set_other planes index (k / 64) word 0 other)

-- one tag is cleared, and no other
pub tag_at-cleared : (planes : List ℕ) (granule k : ℕ) → granule < 64 * length planes
    → tag_at (set planes (granule / 64) (bit_and (get_or planes (granule / 64) 0) (bit_not w64 (1 * 2 ^ (granule % 64) % 2 ^ 64)))) k
    ≡ cond (eqb k granule) false (tag_at planes k)
tag_at-cleared planes granule k inside =
    let word = bit_and (get_or planes (granule / 64) 0) (bit_not w64 (1 * 2 ^ (granule % 64) % 2 ^ 64)) in
    ⊎_elim (λ here. tag_at-set_here planes (granule / 64) word k (omega arith) here ∙ ⊎_elim (λ same.
    let place : k % 64 ≡ granule % 64 = omega arith in
    ap (λ i. eqb (bit_at word i) 1) place
    ∙ ap (λ bit. eqb bit 1) (bit_at_clear_same w64 (get_or planes (granule / 64) 0) (granule % 64) (omega arith))
    ∙ sym (ap (λ b. cond b false (tag_at planes k)) (eq-eqb k granule same))) (λ other.
    ap (λ bit. eqb bit 1) (bit_at_clear_other w64 (get_or planes (granule / 64) 0) (granule % 64) (omega arith) (k % 64) (omega arith)
    (λ same. other (omega arith)))
    ∙ ap (λ i. eqb (bit_at (get_or planes i 0) (k % 64)) 1) (sym here)
    ∙ sym (ap (λ b. cond b false (tag_at planes k)) (ne_eqb k granule other))) (cases_eq k granule)) (λ elsewhere.
    tag_at-set_elsewhere planes (granule / 64) word k elsewhere
    ∙ sym (ap (λ b. cond b false (tag_at planes k)) (ne_eqb k granule (λ same. elsewhere (ap (λ g. g / 64) same)))))
    (cases_eq (k / 64) (granule / 64))

-- one granule is tagged, and no other
pub tag_at-tagged : (planes : List ℕ) (granule k : ℕ) → granule < 64 * length planes
    → tag_at (set planes (granule / 64) (bit_or (get_or planes (granule / 64) 0) (1 * 2 ^ (granule % 64) % 2 ^ 64))) k
    ≡ cond (eqb k granule) true (tag_at planes k)
tag_at-tagged planes granule k inside =
    let word = bit_or (get_or planes (granule / 64) 0) (1 * 2 ^ (granule % 64) % 2 ^ 64) in
    ⊎_elim (λ here. tag_at-set_here planes (granule / 64) word k (omega arith) here ∙ ⊎_elim (λ same.
    let place : k % 64 ≡ granule % 64 = omega arith in
    ap (λ i. eqb (bit_at word i) 1) place
    ∙ ap (λ bit. eqb bit 1) (bit_at_set_same w64 (get_or planes (granule / 64) 0) (granule % 64) (omega arith))
    ∙ sym (ap (λ b. cond b true (tag_at planes k)) (eq-eqb k granule same))) (λ other.
    ap (λ bit. eqb bit 1) (bit_at_set_other w64 (get_or planes (granule / 64) 0) (granule % 64) (omega arith) (k % 64)
    (λ same. other (omega arith)))
    ∙ ap (λ i. eqb (bit_at (get_or planes i 0) (k % 64)) 1) (sym here)
    ∙ sym (ap (λ b. cond b true (tag_at planes k)) (ne_eqb k granule other))) (cases_eq k granule)) (λ elsewhere.
    tag_at-set_elsewhere planes (granule / 64) word k elsewhere
    ∙ sym (ap (λ b. cond b true (tag_at planes k)) (ne_eqb k granule (λ same. elsewhere (ap (λ g. g / 64) same)))))
    (cases_eq (k / 64) (granule / 64))

-- the bits below a place, and those from a place on
pub bits_below-is : (count j : ℕ) → count < 64 → eqb (bit_at (1 * 2 ^ count % 2 ^ 64 - 1) j) 1 ≡ ltb j count
bits_below-is count j few =
    let small : 2 ^ count < 2 ^ 64 = pow-lt few in
    let word : 1 * 2 ^ count % 2 ^ 64 - 1 ≡ 2 ^ count - 1 = omega arith in
    ap (λ n. eqb (bit_at n j) 1) word
    ∙ ⊎_elim (λ below. ap (λ bit. eqb bit 1) (bit_at_ones count j below) ∙ sym (lt-ltb j count below))
    (λ above. ap (λ bit. eqb bit 1) (bit_at_ones_above count j above) ∙ sym (le-ltb j count above)) (cases_lt j count)

pub bits_from-is : (count j : ℕ) → count < 64 → j < 64 → eqb (bit_at ((2 ^ 64 - 1) * 2 ^ count % 2 ^ 64) j) 1 ≡ leb count j
bits_from-is count j few inside =
    ap (λ n. eqb (bit_at n j) 1) (ones_shl 64 count (omega arith))
    ∙ ⊎_elim (λ below. ap (λ bit. eqb bit 1) (bit_at_mask_below count 64 j below) ∙ sym (lt-leb count j below))
    (λ above. ap (λ bit. eqb bit 1) (bit_at_mask_inside count 64 j above inside) ∙ sym (le-leb count j above)) (cases_lt j count)

-- a bit of a union, and of what two words share
both_bits : (a b : ℕ) → a < 2 → b < 2 → eqb (min a b) 1 ≡ (eqb a 1 && eqb b 1)
both_bits a b x y = grind (arith, nat_tests)

pub bit_of_both : (a b i : ℕ) → eqb (bit_at (bit_and a b) i) 1 ≡ (eqb (bit_at a i) 1 && eqb (bit_at b i) 1)
bit_of_both a b i = ap (λ n. eqb n 1) (bit_at_and a b i) ∙ both_bits (bit_at a i) (bit_at b i) (bit_at-lt a i) (bit_at-lt b i)

either_bit : (a b : ℕ) → a < 2 → b < 2 → eqb (max a b) 1 ≡ (eqb a 1 || eqb b 1)
either_bit a b x y = grind (arith, nat_tests)

pub bit_of_either : (a b i : ℕ) → eqb (bit_at (bit_or a b) i) 1 ≡ (eqb (bit_at a i) 1 || eqb (bit_at b i) 1)
bit_of_either a b i = ap (λ n. eqb n 1) (bit_at_or a b i) ∙ either_bit (bit_at a i) (bit_at b i) (bit_at-lt a i) (bit_at-lt b i)

-- the tags of a word's granules that are kept
pub tag_at-kept : (planes : List ℕ) (index kept k : ℕ) → index < length planes → k / 64 ≡ index
    → tag_at (set planes index (bit_and (get_or planes index 0) kept)) k ≡ (tag_at planes k && eqb (bit_at kept (k % 64)) 1)
tag_at-kept planes index kept k inside here =
    tag_at-set_here planes index (bit_and (get_or planes index 0) kept) k inside here
    ∙ bit_of_both (get_or planes index 0) kept (k % 64)
    ∙ ap (λ i. eqb (bit_at (get_or planes i 0) (k % 64)) 1 && eqb (bit_at kept (k % 64)) 1) (sym here)

pub and_true : (x b : Bool) → b ≡ true → (x && b) ≡ x
and_true true b e = e
and_true false b e = refl
