-- Ranges: one more, one that grows, and the same in another order.
use Rattle.std.proofs.Common.{◌≡◌, ℕ, ◌+◌, ◌<◌, ◌≤◌, ◌++◌, List, [], ◌∷◌, length, get_or, set, map, take, max, ◌∙◌, ◌⊎◌}
use Rattle.std.proofs.Common.{ap, sym, subst, arith, inl, inr}
use Rattle.std.proofs.lemmas.Bool.{cases_eq, cases_lt}
use Rattle.std.proofs.lemmas.List.{take_more, get_or-set_same, get_or-set_other, length-set, get_or_default, map-append, take_all}
use Rattle.std.proofs.lemmas.List.Elements.{Contains-push, Contains-push_cases, Contains-append_left, All-push}
use Rattle.std.proofs.lemmas.List.Sorted.{All-permutation, Contains-permutation, IsPermutation-sym}
use Rattle.std.specs.List.Sorted.{IsPermutation}
use Rattle.std.specs.Prelude.{◌↔◌}
use Rattle.cap_bounds.specs.CapValue.{CapValue}
use Rattle.reach.specs.declared.range.Range.{Range}
use Rattle.reach.specs.declared.right.Right.{Right}
use Rattle.reach.specs.Opens.{Opens}
use Rattle.reach.specs.Ranges.{IsIn, IsInOne, IsOpen, AreFilled}

-- ---- one range more

pub in_one-push : (ranges : List Range) (range : Range) (a : ℕ) → IsInOne (ranges ++ range ∷ []) a → IsInOne ranges a ⊎ IsIn range a
in_one-push ranges range a one = elim (Contains-push_cases ranges range one.range one.is_one) [
  | inl before ↦ inl (record { range = one.range; is_one = before; inside = one.inside })
  | inr same ↦ inr (subst (λ it. IsIn it a) (sym same) one.inside)
]

pub push-in_one : (ranges : List Range) (range : Range) (a : ℕ) → IsInOne ranges a ⊎ IsIn range a → IsInOne (ranges ++ range ∷ []) a
push-in_one ranges range a (inl one) = record {
  range = one.range;
  is_one = Contains-append_left ranges (range ∷ []) one.range one.is_one;
  inside = one.inside;
}
push-in_one ranges range a (inr inside) = record { range = range; is_one = Contains-push ranges range; inside = inside }

-- ---- one value more

is_open-push : (right : Right) (vs : List CapValue) (v : CapValue) (a : ℕ) → IsOpen right (vs ++ v ∷ []) a
    → IsOpen right vs a ⊎ Opens right v a
is_open-push right vs v a open_there = elim (Contains-push_cases vs v open_there.value open_there.is_one) [
  | inl before ↦ inl (record { value = open_there.value; is_one = before; opens = open_there.opens })
  | inr same ↦ inr (subst (λ it. Opens right it a) (sym same) open_there.opens)
]

push-is_open : (right : Right) (vs : List CapValue) (v : CapValue) (a : ℕ) → IsOpen right vs a ⊎ Opens right v a
    → IsOpen right (vs ++ v ∷ []) a
push-is_open right vs v a (inl before) = record {
  value = before.value;
  is_one = Contains-append_left vs (v ∷ []) before.value before.is_one;
  opens = before.opens;
}
push-is_open right vs v a (inr here) = record { value = v; is_one = Contains-push vs v; opens = here }

module _ {X : Type 0} (right : Right) (f : X → CapValue) (items : List X) (i : ℕ) (x : X) (below : i < length items)
    (read : x ≡ get_or items i x) (ranges : List Range)
    (before : (a : ℕ) → IsInOne ranges a ↔ IsOpen right (map f (take i items)) a) where
  more : map f (take (i + 1) items) ≡ map f (take i items) ++ f x ∷ []
  more =
      ap (map f) (take_more items i x below ∙ ap (λ y. take i items ++ y ∷ []) (sym read)) ∙ map-append f (take i items) (x ∷ [])

  -- the value opens a range
  pub opened-more : (range : Range) (grown : List Range) → grown ≡ ranges ++ range ∷ []
      → ((a : ℕ) → IsIn range a ↔ Opens right (f x) a) → (a : ℕ) → IsInOne grown a ↔ IsOpen right (map f (take (i + 1) items)) a
  opened-more range grown is same a = (
    λ one. subst (λ vs. IsOpen right vs a) (sym more) (push-is_open right (map f (take i items)) (f x) a
        (elim (in_one-push ranges range a (subst (λ rs. IsInOne rs a) is one)) [
          | inl old ↦ inl ((before a).0 old)
          | inr new ↦ inr ((same a).0 new)
        ])),
    λ there. subst (λ rs. IsInOne rs a) (sym is) (push-in_one ranges range a
        (elim (is_open-push right (map f (take i items)) (f x) a (subst (λ vs. IsOpen right vs a) more there)) [
          | inl old ↦ inl ((before a).1 old)
          | inr new ↦ inr ((same a).1 new)
        ])),
  )

  -- the value opens nothing
  pub opened-no_more : ((a : ℕ) → Opens right (f x) a → ⊥) → (a : ℕ) → IsInOne ranges a ↔ IsOpen right (map f (take (i + 1) items)) a
  opened-no_more none a = (
    λ one. subst (λ vs. IsOpen right vs a) (sym more) (push-is_open right (map f (take i items)) (f x) a (inl ((before a).0 one))),
    λ there. elim (is_open-push right (map f (take i items)) (f x) a (subst (λ vs. IsOpen right vs a) more there)) [
      | inl old ↦ (before a).1 old
      | inr new ↦ absurd (none a new)
    ],
  )

-- the ranges of the first values, where those are all
pub opened-all : {X : Type 0} (right : Right) (f : X → CapValue) (items : List X) (n : ℕ) → length items ≤ n → (ranges : List Range)
    → ((a : ℕ) → IsInOne ranges a ↔ IsOpen right (map f (take n items)) a) → (a : ℕ) → IsInOne ranges a ↔ IsOpen right (map f items) a
opened-all right f items n all ranges same =
    subst (λ xs. (a : ℕ) → IsInOne ranges a ↔ IsOpen right (map f xs) a) (take_all n items all) same

pub filled-push : (ranges grown : List Range) (range : Range) → grown ≡ ranges ++ range ∷ [] → AreFilled ranges
    → range.from < range.to → AreFilled grown
filled-push ranges grown range is filled some =
    subst AreFilled (sym is) (All-push (λ r. r.from < r.to) ranges range filled some)

-- ---- a range that grows

module _ (ranges : List Range) (i : ℕ) (last range grown : Range) (below : i < length ranges) (at : last ≡ get_or ranges i last)
    (from : grown.from ≡ last.from) (to : grown.to ≡ max last.to range.to) (begun : last.from ≤ range.from)
    (reaches : range.from ≤ last.to) where
  one-set : (k : ℕ) (r : Range) → k < length ranges → get_or (set ranges i grown) k r ≡ r → (a : ℕ) → IsIn r a
      → IsInOne ranges a ⊎ IsIn range a
  one-set k r inside here a within = elim (cases_eq k i) [
    | inl same ↦
        let is : grown ≡ r =
        sym (ap (λ n. get_or (set ranges i grown) n r) same ∙ get_or-set_same ranges i grown r below) ∙ here in
        let low = within.low in
        let high = within.high in
        let from_same = ap (λ it. it.from) is in
        let to_same = ap (λ it. it.to) is in
        elim (cases_lt a last.to) [
          | inl inner ↦ inl (record {
            range = last;
            is_one = (i, below, sym at);
            inside = record { low = omega arith; high = inner };
          })
          | inr outer ↦ inr (record { low = omega arith; high = omega arith })
        ]
    | inr other ↦ inl (record {
      range = r;
      is_one = (k, inside, sym (get_or-set_other ranges i k grown r other) ∙ here);
      inside = within;
    })
  ]

  pub in_one-grown : (a : ℕ) → IsInOne (set ranges i grown) a → IsInOne ranges a ⊎ IsIn range a
  in_one-grown a one =
      let place : ℕ = one.is_one.0 in
      let inside : place < length (set ranges i grown) = one.is_one.1 in
      one-set place one.range (omega (arith, length-set ranges i grown)) one.is_one.2 a one.inside

  grown-here : (a : ℕ) → IsIn grown a → IsInOne (set ranges i grown) a
  grown-here a within = record {
    range = grown;
    is_one = (i, omega (arith, length-set ranges i grown), get_or-set_same ranges i grown grown below);
    inside = within;
  }

  grown-old : (k : ℕ) (r : Range) → k < length ranges → get_or ranges k r ≡ r → (a : ℕ) → IsIn r a → IsInOne (set ranges i grown) a
  grown-old k r inside here a within = elim (cases_eq k i) [
    | inl same ↦
        let is : last ≡ r = at ∙ get_or_default ranges i last r below ∙ sym (ap (λ n. get_or ranges n r) same) ∙ here in
        let low = within.low in
        let high = within.high in
        let from_same = ap (λ it. it.from) is in
        let to_same = ap (λ it. it.to) is in
        grown-here a (record { low = omega arith; high = omega arith })
    | inr other ↦ record {
      range = r;
      is_one = (k, omega (arith, length-set ranges i grown), get_or-set_other ranges i k grown r other ∙ here);
      inside = within;
    }
  ]

  pub grown-in_one : (a : ℕ) → IsInOne ranges a ⊎ IsIn range a → IsInOne (set ranges i grown) a
  grown-in_one a (inl one) = grown-old one.is_one.0 one.range one.is_one.1 one.is_one.2 a one.inside
  grown-in_one a (inr within) =
      let low = within.low in
      let high = within.high in
      grown-here a (record { low = omega arith; high = omega arith })

-- ---- the first ranges of a list, merged, and one more

pub merged-more : (ranges : List Range) (i : ℕ) (d : Range) → i < length ranges → (found grown : List Range)
    → ((a : ℕ) → IsInOne found a ↔ IsInOne (take i ranges) a)
    → ((a : ℕ) → IsInOne grown a ↔ (IsInOne found a ⊎ IsIn (get_or ranges i d) a))
    → (a : ℕ) → IsInOne grown a ↔ IsInOne (take (i + 1) ranges) a
merged-more ranges i d below found grown before step a =
    let range = get_or ranges i d in
    let more : take (i + 1) ranges ≡ take i ranges ++ range ∷ [] = take_more ranges i d below in (
      λ one. subst (λ rs. IsInOne rs a) (sym more) (push-in_one (take i ranges) range a
          (elim ((step a).0 one) [ inl old ↦ inl ((before a).0 old) | inr new ↦ inr new ])),
      λ one. (step a).1
          (elim (in_one-push (take i ranges) range a (subst (λ rs. IsInOne rs a) more one)) [
            | inl old ↦ inl ((before a).1 old)
            | inr new ↦ inr new
          ]),
    )

-- ---- the same ranges in another order

pub filled-permutation : (ranges others read : List Range) → IsPermutation ranges others → read ≡ others → AreFilled ranges
    → AreFilled read
filled-permutation ranges others read moved is filled =
    subst AreFilled (sym is) (All-permutation (λ r. r.from < r.to) ranges others moved filled)

in_one-permutation : (ranges others : List Range) → IsPermutation ranges others → (a : ℕ) → IsInOne ranges a → IsInOne others a
in_one-permutation ranges others moved a one = record {
  range = one.range;
  is_one = Contains-permutation ranges others one.range moved one.is_one;
  inside = one.inside;
}

-- what the ranges of the values have after they are sorted and merged
pub merged-opened : (right : Right) (vs : List CapValue) (opened sorted read found : List Range) → IsPermutation opened sorted
    → read ≡ sorted → ((a : ℕ) → IsInOne opened a ↔ IsOpen right vs a) → ((a : ℕ) → IsInOne found a ↔ IsInOne read a)
    → (a : ℕ) → IsInOne found a ↔ IsOpen right vs a
merged-opened right vs opened sorted read found moved is before merged a = (
  λ one. (before a).0
      (in_one-permutation sorted opened (IsPermutation-sym opened sorted moved) a (subst (λ rs. IsInOne rs a) is ((merged a).0 one))),
  λ there. (merged a).1 (subst (λ rs. IsInOne rs a) (sym is) (in_one-permutation opened sorted moved a ((before a).1 there))),
)
