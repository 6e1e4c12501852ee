-- Ranges that are apart are determined by the numbers in them.
use Rattle.std.proofs.Common.{◌≡◌, ℕ, ◌+◌, ◌<◌, ◌≤◌, List, [], ◌∷◌, length, get_or, zero, suc, ◌∙◌, ◌⊎◌}
use Rattle.std.proofs.Common.{refl, sym, ap, subst, arith, inl, inr}
use Rattle.std.proofs.lemmas.Bool.{cases_lt}
use Rattle.std.specs.Prelude.{◌↔◌}
use Rattle.cap_bounds.specs.CapValue.{CapValue}
use Rattle.steps.specs.State.{State}
use Rattle.reach.specs.declared.range.Range.{Range}
use Rattle.reach.specs.declared.right.Right.{Right}
use Rattle.reach.specs.Ranges.{IsIn, IsInOne, IsOpen, AreApart}
use Rattle.reach.specs.Reach.{AreReachable}

-- ---- the first range and the others

module _ (r : Range) (rs : List Range) where
  pub head-in : (a : ℕ) → IsIn r a → IsInOne (r ∷ rs) a
  head-in a inside = record { range = r; is_one = (0, omega arith, refl); inside = inside }

  pub rest-in : (a : ℕ) → IsInOne rs a → IsInOne (r ∷ rs) a
  rest-in a one =
      let place : ℕ = one.is_one.0 in
      let below : place < length rs = one.is_one.1 in
      record { range = one.range; is_one = (suc place, omega arith, one.is_one.2); inside = one.inside }

  in_at : (k : ℕ) (x : Range) → k < length (r ∷ rs) → get_or (r ∷ rs) k x ≡ x → (a : ℕ) → IsIn x a → IsIn r a ⊎ IsInOne rs a
  in_at zero x below at a inside = inl (subst (λ y. IsIn y a) (sym at) inside)
  in_at (suc k) x below at a inside = inr (record { range = x; is_one = (k, omega arith, at); inside = inside })

  pub in-cases : (a : ℕ) → IsInOne (r ∷ rs) a → IsIn r a ⊎ IsInOne rs a
  in-cases a one = in_at one.is_one.0 one.range one.is_one.1 one.is_one.2 a one.inside

  module _ (apart : AreApart (r ∷ rs)) where
    pub filled : r.from < r.to
    filled = apart.filled 0 r (omega arith)

    pub apart-rest : AreApart rs
    apart-rest = record {
      filled = λ k d below. apart.filled (suc k) d (omega arith);
      gaps = λ k d below.
          let next : suc k + 1 ≡ suc (k + 1) = omega arith in
          let gap : (get_or rs k d).to < (get_or (r ∷ rs) (suc k + 1) d).from = apart.gaps (suc k) d (omega arith) in
          subst (λ n. (get_or rs k d).to < (get_or (r ∷ rs) n d).from) next gap;
    }

    after : (k : ℕ) (d : Range) → k < length rs → r.to < (get_or rs k d).from
    after zero d below = apart.gaps 0 d (omega arith)
    after (suc k) d below =
        let next : k + 1 ≡ suc k = omega arith in
        let before : r.to < (get_or rs k d).from = after k d (omega arith) in
        let some : (get_or rs k d).from < (get_or rs k d).to = apart-rest.filled k d (omega arith) in
        let gap : (get_or rs k d).to < (get_or rs (k + 1) d).from = apart-rest.gaps k d (omega arith) in
        subst (λ n. r.to < (get_or rs n d).from) next (omega arith)

    pub rest-after : (a : ℕ) → IsInOne rs a → r.to < a
    rest-after a one =
        let begins : r.to < one.range.from =
        subst (λ y. r.to < y.from) one.is_one.2 (after one.is_one.0 one.range one.is_one.1) in
        let low = one.inside.low in
        omega arith

    pub first-low : (a : ℕ) → IsInOne (r ∷ rs) a → r.from ≤ a
    first-low a one = elim (in-cases a one) [
      | inl inside ↦ inside.low
      | inr rest ↦ let past : r.to < a = rest-after a rest in let some = filled in omega arith
    ]

    end-out : IsInOne (r ∷ rs) r.to → ⊥
    end-out one = elim (in-cases r.to one) [
      | inl inside ↦ let high = inside.high in absurd (omega arith)
      | inr rest ↦ let past : r.to < r.to = rest-after r.to rest in absurd (omega arith)
    ]

-- ---- two lists

module _ (r : Range) (rs : List Range) (q : Range) (qs : List Range) (left : AreApart (r ∷ rs)) (right : AreApart (q ∷ qs))
    (same : (a : ℕ) → IsInOne (r ∷ rs) a ↔ IsInOne (q ∷ qs) a) where
  same-from : r.from ≡ q.from
  same-from =
      let some : r.from < r.to = filled r rs left in
      let other : q.from < q.to = filled q qs right in
      let one = first-low q qs right r.from ((same r.from).0 (head-in r rs r.from (record { low = omega arith; high = some }))) in
      let two = first-low r rs left q.from ((same q.from).1 (head-in q qs q.from (record { low = omega arith; high = other }))) in
      omega arith

  same-to : r.to ≡ q.to
  same-to =
      let some : r.from < r.to = filled r rs left in
      let other : q.from < q.to = filled q qs right in
      let begin = same-from in
      elim (cases_lt r.to q.to) [
        | inl less ↦ absurd (end-out r rs left ((same r.to).1
            (head-in q qs r.to (record { low = omega arith; high = less }))))
        | inr most ↦ elim (cases_lt q.to r.to) [
          | inl less ↦ absurd (end-out q qs right ((same q.to).0
              (head-in r rs q.to (record { low = omega arith; high = less }))))
          | inr least ↦ omega arith
        ]
      ]

  rest-there : (a : ℕ) → IsInOne rs a → IsInOne qs a
  rest-there a one = elim (in-cases q qs a ((same a).0 (rest-in r rs a one))) [
    | inl inside ↦
        let past : r.to < a = rest-after r rs left a one in
        let end = same-to in
        let high = inside.high in
        absurd (omega arith)
    | inr rest ↦ rest
  ]

  rest-back : (a : ℕ) → IsInOne qs a → IsInOne rs a
  rest-back a one = elim (in-cases r rs a ((same a).1 (rest-in q qs a one))) [
    | inl inside ↦
        let past : q.to < a = rest-after q qs right a one in
        let end = same-to in
        let high = inside.high in
        absurd (omega arith)
    | inr rest ↦ rest
  ]

pub none-in : (a : ℕ) → IsInOne [] a → ⊥
none-in a one = let below : one.is_one.0 < 0 = one.is_one.1 in absurd (omega arith)

same-range : (r q : Range) → r.from ≡ q.from → r.to ≡ q.to → r ≡ q
same-range r q from to =
    let with_from : ℕ → Range = λ n. record { from = n; to = r.to } in
    let with_to : ℕ → Range = λ n. record { from = q.from; to = n } in
    ap with_from from ∙ ap with_to to

pub determined : (xs ys : List Range) → AreApart xs → AreApart ys → ((a : ℕ) → IsInOne xs a ↔ IsInOne ys a) → xs ≡ ys
determined [] [] left right same = refl
determined [] (q ∷ qs) left right same =
    let some : q.from < q.to = filled q qs right in
    absurd (none-in q.from ((same q.from).1 (head-in q qs q.from (record { low = omega arith; high = some }))))
determined (r ∷ rs) [] left right same =
    let some : r.from < r.to = filled r rs left in
    absurd (none-in r.from ((same r.from).0 (head-in r rs r.from (record { low = omega arith; high = some }))))
determined (r ∷ rs) (q ∷ qs) left right same =
    let first : r ≡ q = same-range r q (same-from r rs q qs left right same) (same-to r rs q qs left right same) in
    let rest : rs ≡ qs = determined rs qs (apart-rest r rs left) (apart-rest q qs right)
    (λ a. (rest-there r rs q qs left right same a, rest-back r rs q qs left right same a)) in
    ap (λ x. x ∷ rs) first ∙ ap (λ xs. q ∷ xs) rest

-- ---- of one state

open-there : (s : State) (right : Right) (us vs : List CapValue) → AreReachable s us → AreReachable s vs → (a : ℕ) → IsOpen right us a
    → IsOpen right vs a
open-there s right us vs are others a o = record {
  value = o.value;
  is_one = others.complete o.value (are.sound o.value o.is_one);
  opens = o.opens;
}

pub same-ranges : (s : State) (right : Right) (us vs : List CapValue) (xs ys : List Range) → AreReachable s us → AreReachable s vs
    → AreApart xs → AreApart ys → ((a : ℕ) → IsInOne xs a ↔ IsOpen right us a) → ((a : ℕ) → IsInOne ys a ↔ IsOpen right vs a) → xs ≡ ys
same-ranges s right us vs xs ys are others left apart one two = determined xs ys left apart (λ a. (
  λ there. (two a).1 (open-there s right us vs are others a ((one a).0 there)),
  λ there. (one a).1 (open-there s right vs us others are a ((two a).0 there)),
))
