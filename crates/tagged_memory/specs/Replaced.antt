-- A list with some of its elements replaced, and the bytes of a number.
use Rattle.std.specs.Prelude.{zero, suc, ◌/◌, ◌^◌, slice_index}
use Rattle.std.specs.Int.{bytes_low_first}
use Rattle.std.proofs.lemmas.Nat.{mod_below}
use Rattle.std.proofs.lemmas.Bool.{cases_lt}
use Rattle.std.specs.Prelude.{◌≡◌, ℕ, ◌+◌, ◌-◌, ◌<◌, ◌≤◌, List, ◌++◌, take, drop, length, refl}
use Rattle.std.proofs.Common.{get_or, sym, ap, ◌∙◌, arith, inl, inr, ◌⊎◌, ⊎_elim}
use Rattle.std.proofs.lemmas.List.{append_assoc, length-append, length-take-le, length-drop, get_or_append_left, get_or-append_right}
use Rattle.std.proofs.lemmas.List.{get_or-take, get_or-drop, same_lists, take_at, drop_at}

-- the list with new elements from a place on
abbrev pub replaced : {X : Type 0} → List X → ℕ → List X → List X
replaced old place new = take place old ++ new ++ drop (place + length new) old

module _ {X : Type 0} (old : List X) (place : ℕ) (new : List X) (fits : place + length new ≤ length old) where
  length-replaced : length (replaced old place new) ≡ length old
  length-replaced =
      omega (
        arith,
        length-append (take place old ++ new) (drop (place + length new) old),
        length-append
            (take place old) new,
        length-take-le place old (omega arith),
        length-drop (place + length new) old,
      )

  get_or-replaced_below : (k : ℕ) (d : X) → k < place → get_or (replaced old place new) k d ≡ get_or old k d
  get_or-replaced_below k d h =
      let front : length (take place old) ≡ place = length-take-le place old (omega arith) in
      let both : length (take place old ++ new) ≡ place + length new = length-append (take place old) new
      ∙ ap (λ n. n + length new) front in
      get_or_append_left (take place old ++ new) (drop (place + length new) old) d k (omega arith)
      ∙ get_or_append_left (take place old) new d k (omega arith)
      ∙ get_or-take place old k d h

  get_or-replaced_at : (k : ℕ) (d : X) → place ≤ k → k < place + length new → get_or (replaced old place new) k d ≡ get_or new (k - place) d
  get_or-replaced_at k d low high =
      let front : length (take place old) ≡ place = length-take-le place old (omega arith) in
      let both : length (take place old ++ new) ≡ place + length new = length-append (take place old) new
      ∙ ap (λ n. n + length new) front in
      get_or_append_left (take place old ++ new) (drop (place + length new) old) d k (omega arith)
      ∙ get_or-append_right (take place old) new place k d front low

  get_or-replaced_past : (k : ℕ) (d : X) → place + length new ≤ k → get_or (replaced old place new) k d ≡ get_or old k d
  get_or-replaced_past k d h =
      let front : length (take place old) ≡ place = length-take-le place old (omega arith) in
      let both : length (take place old ++ new) ≡ place + length new = length-append (take place old) new
      ∙ ap (λ n. n + length new) front in
      let back : place + length new + (k - (place + length new)) ≡ k = omega arith in
      get_or-append_right (take place old ++ new) (drop (place + length new) old) (place + length new) k d both h
      ∙ get_or-drop (place + length new) old (k - (place + length new)) d
      ∙ ap (λ n. get_or old n d) back

-- the same, for files that import it
pub length-same : {X : Type 0} (old : List X) (place : ℕ) (new : List X) → place + length new ≤ length old
    → length (replaced old place new) ≡ length old
length-same old place new fits = length-replaced old place new fits

-- an element that is not replaced stays
pub element-kept : {X : Type 0} (old : List X) (place : ℕ) (new : List X) → place + length new ≤ length old → (k : ℕ) (d : X)
    → (k < place) ⊎ (place + length new ≤ k)
    → get_or (replaced old place new) k d ≡ get_or old k d
element-kept old place new fits k d (inl below) = get_or-replaced_below old place new fits k d below
element-kept old place new fits k d (inr past) = get_or-replaced_past old place new fits k d past

-- and one that is replaced is new
pub element-new : {X : Type 0} (old : List X) (place : ℕ) (new : List X) → place + length new ≤ length old → (k : ℕ) (d : X) → place ≤ k
    → k < place + length new
    → get_or (replaced old place new) k d ≡ get_or new (k - place) d
element-new old place new fits k d low high = get_or-replaced_at old place new fits k d low high

length-part : {X : Type 0} (xs : List X) (q n : ℕ) → q + n ≤ length xs → length (take n (drop q xs)) ≡ n
length-part xs q n h = length-take-le n (drop q xs) (omega (arith, length-drop q xs))

get_or-part : {X : Type 0} (xs : List X) (q n k : ℕ) (d : X) → k < n → get_or (take n (drop q xs)) k d ≡ get_or xs (q + k) d
get_or-part xs q n k d h = get_or-take n (drop q xs) k d h ∙ get_or-drop q xs k d

apart : (q n place len k : ℕ) → (q + n ≤ place) ⊎ (place + len ≤ q) → k < n → (q + k < place) ⊎ (place + len ≤ q + k)
apart q n place len k (inl below) h = inl (omega arith)
apart q n place len k (inr past) h = inr (omega arith)

-- a part that is apart from what is replaced stays
pub part-kept : {X : Type 0} (old : List X) (place : ℕ) (new : List X) → place + length new ≤ length old → (q n : ℕ) → q + n ≤ length old
    → (q + n ≤ place) ⊎ (place + length new ≤ q)
    → take n (drop q (replaced old place new)) ≡ take n (drop q old)
part-kept old place new fits q n h far =
    let whole : q + n ≤ length (replaced old place new) = omega (arith, length-same old place new fits) in
    let len : length (take n (drop q (replaced old place new))) ≡ n = length-part (replaced old place new) q n whole in
    same_lists (take n (drop q (replaced old place new))) (take n (drop q old)) (len ∙ sym (length-part old q n h)) (λ k d below.
    get_or-part (replaced old place new) q n k d (omega arith)
    ∙ element-kept old place new fits (q + k) d (apart q n place (length new) k far (omega arith))
    ∙ sym (get_or-part old q n k d (omega arith)))

-- where nothing is new, every part stays
pub part-untouched : {X : Type 0} (old : List X) (place : ℕ) (new : List X) → place + length new ≤ length old → (q n : ℕ)
    → q + n ≤ length old → length new ≤ 0
    → take n (drop q (replaced old place new)) ≡ take n (drop q old)
part-untouched old place new fits q n h none =
    ap (λ xs. take n (drop q xs)) (same_lists (replaced old place new) old (length-same old place new fits) (λ k d below.
    element-kept old place new fits k d (⊎_elim (λ before. inl before) (λ past. inr (omega arith)) (cases_lt k place))))

-- the part that is replaced is what is new
pub part-new : {X : Type 0} (old : List X) (place : ℕ) (new : List X) → place + length new ≤ length old
    → take (length new) (drop place (replaced old place new)) ≡ new
part-new old place new fits =
    let front : length (take place old) ≡ place = length-take-le place old (omega arith) in
    ap (λ xs. take (length new) (drop place xs)) (append_assoc (take place old) new (drop (place + length new) old))
    ∙ ap (take (length new)) (drop_at (take place old) (new ++ drop (place + length new) old) place front)
    ∙ take_at new (drop (place + length new) old) (length new) refl

-- the bytes of a number are bytes
pub low_first-lt : (i n x k : ℕ) → slice_index (bytes_low_first i n x) k < 256
low_first-lt i zero x k = omega arith
low_first-lt zero (suc n) x zero = mod_below x 256 (omega arith)
low_first-lt (suc i) (suc n) x zero = mod_below (x / 256 ^ suc i) 256 (omega arith)
low_first-lt i (suc n) x (suc k) = low_first-lt (suc i) n x k
