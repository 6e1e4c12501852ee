-- The cuts of a text, one byte after the other.
use Rattle.std.proofs.Common.{◌≡◌, ℕ, zero, suc, ◌+◌, ◌<◌, ◌≤◌, ◌==◌, Bool}
use Rattle.std.proofs.Common.{true, false, not, List, [], ◌∷◌, ◌++◌, length, take, drop}
use Rattle.std.proofs.Common.{Option, Some, None, refl, arith}
use Rattle.std.proofs.lemmas.Bool.Decides.{nat_tests}
use Rattle.std.specs.List.{prefix_len}
use Rattle.policy_text.specs.Policy.{cut_at, cut_at_dots}

one_more : (n : ℕ) → 1 + n ≡ suc n
one_more n = omega arith

add_one : (n : ℕ) → n + 1 ≡ suc n
add_one n = omega arith

abbrev run : ℕ → List ℕ → ℕ
run byte text = prefix_len (λ b. not (b == byte)) text

found_at : (byte b : ℕ) (bs : List ℕ)
    → (run byte bs < length bs → cut_at byte bs ≡ Some (take (run byte bs) bs, drop (run byte bs + 1) bs))
    → (t : Bool) → (b == byte) ≡ t → run byte (b ∷ bs) < length (b ∷ bs)
    → cut_at byte (b ∷ bs) ≡ Some (take (run byte (b ∷ bs)) (b ∷ bs), drop (run byte (b ∷ bs) + 1) (b ∷ bs))
found_at byte b bs ih true e h = rw e refl
found_at byte b bs ih false e h =
    let k : 1 + run byte bs < suc (length bs) = rw e at h in
    let c = ih (omega arith) in
    let n : 1 + run byte bs + 1 ≡ suc (run byte bs + 1) = omega arith in
    rw (e, c, n, one_more) refl

-- where there is such a byte
pub found : (byte : ℕ) (text : List ℕ) → run byte text < length text
    → cut_at byte text ≡ Some (take (run byte text) text, drop (run byte text + 1) text)
found byte [] h = absurd (omega arith)
found byte (b ∷ bs) h = found_at byte b bs (found byte bs) (b == byte) refl h

absent_at : (byte b : ℕ) (bs : List ℕ) → (length bs ≤ run byte bs → cut_at byte bs ≡ None) → (t : Bool) → (b == byte) ≡ t
    → length (b ∷ bs) ≤ run byte (b ∷ bs) → cut_at byte (b ∷ bs) ≡ None
absent_at byte b bs ih true e h = let k : suc (length bs) ≤ 0 = rw e at h in absurd (omega arith)
absent_at byte b bs ih false e h =
    let k : suc (length bs) ≤ 1 + run byte bs = rw e at h in
    let c = ih (omega arith) in
    rw (e, c) refl

-- and where there is none
pub absent : (byte : ℕ) (text : List ℕ) → length text ≤ run byte text → cut_at byte text ≡ None
absent byte [] h = refl
absent byte (b ∷ bs) h = absent_at byte b bs (absent byte bs) (b == byte) refl h

-- the two sides of a cut, with more bytes before it
abbrev pub onto : List ℕ → Option (List ℕ × List ℕ) → Option (List ℕ × List ℕ)
onto front (Some sides) = Some (front ++ sides.0, sides.1)
onto front None = None

-- the cut of a text is that of what is left of it, with the bytes before that
abbrev pub rest_of : List ℕ → ℕ → Option (List ℕ × List ℕ)
rest_of text i = onto (take i text) (cut_at_dots (drop i text))

-- and what has fewer than two bytes has none
pub no_dots : (text : List ℕ) (i : ℕ) → length text ≤ i + 1 → cut_at_dots (drop i text) ≡ None
no_dots [] zero h = refl
no_dots [] (suc i) h = refl
no_dots (b ∷ []) zero h = grind (arith, nat_tests)
no_dots (b ∷ c ∷ bs) zero h = absurd (omega arith)
no_dots (b ∷ bs) (suc i) h = no_dots bs i (omega arith)
