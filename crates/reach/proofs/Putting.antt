-- Ranges that are put one by one into ranges that are apart.
use Rattle.std.proofs.Common.{◌≡◌, ℕ, ◌+◌, ◌<◌, ◌≤◌, List, [], ◌∷◌, length, get_or, zero, suc, ◌∙◌, ◌⊎◌, refl, sym, subst, arith, inl, inr}
use Rattle.std.proofs.lemmas.Bool.{cases_lt, false≢true}
use Rattle.std.proofs.lemmas.Bool.Decides.{nat_tests}
use Rattle.std.specs.Prelude.{◌↔◌, Bool, true, false, not, ◌&&◌, nat_lt, if◌then◌else◌}
use Rattle.cap_bounds.specs.CapValue.{CapValue, is_sealed, value_base, value_top}
use Rattle.reach.specs.declared.range.Range.{Range}
use Rattle.reach.specs.declared.right.Right.{Right}
use Rattle.reach.specs.declared.right.Right.TheVariants.{Store, Load, Execute, Capabilities, Keep, Seal, Unseal}
use Rattle.reach.specs.Opens.{Permits, Opens}
use Rattle.reach.specs.Ranges.{IsIn, IsInOne, IsOpen, AreFilled, AreApart, joined, put_range, permits_right}
use Rattle.reach.specs.Ranges.{opens_any, bounds_of, ranges_of}
use Rattle.reach.proofs.Determined.{head-in, rest-in, in-cases, filled, first-low, rest-after, apart-rest, none-in, determined}

not_less : (a b : ℕ) → nat_lt a b ≡ false → b ≤ a
not_less a b test = grind (arith, nat_tests)

less : (a b : ℕ) → nat_lt a b ≡ true → a < b
less a b test = grind (arith, nat_tests)

is_less : (a b : ℕ) → a < b → nat_lt a b ≡ true
is_less a b h = grind (arith, nat_tests)

-- ---- one range before others

filled-cons : (r : Range) (rs : List Range) → r.from < r.to → AreFilled rs → AreFilled (r ∷ rs)
filled-cons r rs some rest zero d below = some
filled-cons r rs some rest (suc k) d below = rest k d (omega arith)

gaps-cons : (r : Range) (rs : List Range) → AreApart rs → ((a : ℕ) → IsInOne rs a → r.to < a) → (k : ℕ) (d : Range)
    → k + 1 < length (r ∷ rs) → (get_or (r ∷ rs) k d).to < (get_or (r ∷ rs) (k + 1) d).from
gaps-cons r [] apart past k d below = absurd (omega arith)
gaps-cons r (q ∷ qs) apart past zero d below =
    past q.from (head-in q qs q.from (record { low = omega arith; high = filled q qs apart }))
gaps-cons r (q ∷ qs) apart past (suc k) d below =
    let next : suc (k + 1) ≡ suc k + 1 = omega arith in
    subst (λ n. (get_or (q ∷ qs) k d).to < (get_or (r ∷ q ∷ qs) n d).from) next (apart.gaps k d (omega arith))

-- each number in the others comes after its end
apart-cons : (r : Range) (rs : List Range) → r.from < r.to → AreApart rs → ((a : ℕ) → IsInOne rs a → r.to < a) → AreApart (r ∷ rs)
apart-cons r rs some apart past = record { filled = filled-cons r rs some apart.filled; gaps = gaps-cons r rs apart past }

apart-none : AreApart []
apart-none = record { filled = λ k d below. absurd (omega arith); gaps = λ k d below. absurd (omega arith) }

-- ---- two ranges that meet or touch

in-joined : (r q : Range) → r.from ≤ q.to → q.from ≤ r.to → (a : ℕ) → IsIn (joined r q) a → IsIn r a ⊎ IsIn q a
in-joined r q one two a inside =
    let low = inside.low in
    let high = inside.high in
    elim (cases_lt a r.to) [
      | inl before ↦ elim (cases_lt a r.from) [
        | inl less ↦ inr (record { low = omega arith; high = omega arith })
        | inr from ↦ inl (record { low = from; high = before })
      ]
      | inr past ↦ inr (record { low = omega arith; high = omega arith })
    ]

joined-in : (r q : Range) (a : ℕ) → IsIn r a ⊎ IsIn q a → IsIn (joined r q) a
joined-in r q a (inl one) = let low = one.low in let high = one.high in record { low = omega arith; high = omega arith }
joined-in r q a (inr one) = let low = one.low in let high = one.high in record { low = omega arith; high = omega arith }

-- ---- a range that is put into ranges: before the first, after it, or joined with it

abbrev put_by : Range → Range → List Range → Bool → Bool → List Range
put_by r q qs before after = if before then r ∷ q ∷ qs else (if after then q ∷ put_range r qs else put_range (joined r q) qs)

in_put-by : (r q : Range) (qs : List Range) (a : ℕ) (before after : Bool) → nat_lt r.to q.from ≡ before → nat_lt q.to r.from ≡ after
    → (IsInOne (put_range r qs) a → IsIn r a ⊎ IsInOne qs a)
    → (IsInOne (put_range (joined r q) qs) a → IsIn (joined r q) a ⊎ IsInOne qs a)
    → IsInOne (put_by r q qs before after) a → IsIn r a ⊎ IsInOne (q ∷ qs) a
in_put-by r q qs a true after x y later both one = in-cases r (q ∷ qs) a one
in_put-by r q qs a false true x y later both one = elim (in-cases q (put_range r qs) a one) [
  | inl here ↦ inr (head-in q qs a here)
  | inr rest ↦ elim (later rest) [ inl mine ↦ inl mine | inr other ↦ inr (rest-in q qs a other) ]
]
in_put-by r q qs a false false x y later both one = elim (both one) [
  | inl here ↦ elim (in-joined r q (not_less q.to r.from y) (not_less r.to q.from x) a here) [
    | inl mine ↦ inl mine
    | inr first ↦ inr (head-in q qs a first)
  ]
  | inr other ↦ inr (rest-in q qs a other)
]

in-put : (r : Range) (qs : List Range) (a : ℕ) → IsInOne (put_range r qs) a → IsIn r a ⊎ IsInOne qs a
in-put r [] a one = in-cases r [] a one
in-put r (q ∷ qs) a one =
    in_put-by r q qs a (nat_lt r.to q.from) (nat_lt q.to r.from) refl refl (in-put r qs a) (in-put (joined r q) qs a) one

put_by-in : (r q : Range) (qs : List Range) (a : ℕ) (before after : Bool)
    → (IsIn r a ⊎ IsInOne qs a → IsInOne (put_range r qs) a)
    → (IsIn (joined r q) a ⊎ IsInOne qs a → IsInOne (put_range (joined r q) qs) a)
    → IsIn r a ⊎ IsInOne (q ∷ qs) a → IsInOne (put_by r q qs before after) a
put_by-in r q qs a true after later both (inl mine) = head-in r (q ∷ qs) a mine
put_by-in r q qs a true after later both (inr one) = rest-in r (q ∷ qs) a one
put_by-in r q qs a false true later both (inl mine) = rest-in q (put_range r qs) a (later (inl mine))
put_by-in r q qs a false true later both (inr one) = elim (in-cases q qs a one) [
  | inl first ↦ head-in q (put_range r qs) a first
  | inr other ↦ rest-in q (put_range r qs) a (later (inr other))
]
put_by-in r q qs a false false later both (inl mine) = both (inl (joined-in r q a (inl mine)))
put_by-in r q qs a false false later both (inr one) = elim (in-cases q qs a one) [
  | inl first ↦ both (inl (joined-in r q a (inr first)))
  | inr other ↦ both (inr other)
]

put-in : (r : Range) (qs : List Range) (a : ℕ) → IsIn r a ⊎ IsInOne qs a → IsInOne (put_range r qs) a
put-in r [] a (inl mine) = head-in r [] a mine
put-in r [] a (inr one) = absurd (none-in a one)
put-in r (q ∷ qs) a one =
    put_by-in r q qs a (nat_lt r.to q.from) (nat_lt q.to r.from) (put-in r qs a) (put-in (joined r q) qs a) one

put_by-apart : (r q : Range) (qs : List Range) (before after : Bool) → nat_lt r.to q.from ≡ before → nat_lt q.to r.from ≡ after
    → r.from < r.to → AreApart (q ∷ qs) → AreApart (put_range r qs) → AreApart (put_range (joined r q) qs)
    → AreApart (put_by r q qs before after)
put_by-apart r q qs true after x y some apart later both =
    let before : r.to < q.from = less r.to q.from x in
    apart-cons r (q ∷ qs) some apart (λ a one. let low : q.from ≤ a = first-low q qs apart a one in omega arith)
put_by-apart r q qs false true x y some apart later both =
    let after : q.to < r.from = less q.to r.from y in
    apart-cons q (put_range r qs) (filled q qs apart) later (λ a one. elim (in-put r qs a one) [
      | inl mine ↦ let low = mine.low in omega arith
      | inr other ↦ rest-after q qs apart a other
    ])
put_by-apart r q qs false false x y some apart later both = both

put-apart : (r : Range) (qs : List Range) → r.from < r.to → AreApart qs → AreApart (put_range r qs)
put-apart r [] some apart = apart-cons r [] some apart (λ a one. absurd (none-in a one))
put-apart r (q ∷ qs) some apart =
    let rest : AreApart qs = apart-rest q qs apart in
    let first : q.from < q.to = filled q qs apart in
    put_by-apart r q qs (nat_lt r.to q.from) (nat_lt q.to r.from) refl refl some apart (put-apart r qs some rest)
    (put-apart (joined r q) qs (omega arith) rest)

-- ---- a value's range

both-left : (a b : Bool) → (a && b) ≡ true → a ≡ true
both-left true b h = refl
both-left false b h = h

both-right : (a b : Bool) → (a && b) ≡ true → b ≡ true
both-right true b h = h
both-right false b h = absurd (false≢true h)

not-true : (b : Bool) → not b ≡ true → b ≡ false
not-true false h = refl
not-true true h = absurd (false≢true h)

permits-test : (right : Right) (c : CapValue) → permits_right right c ≡ true → Permits right c
permits-test Store c h = h
permits-test Load c h = h
permits-test Execute c h = h
permits-test Capabilities c h = (both-left _ _ h, both-right _ _ h)
permits-test Keep c h = (both-left _ _ h, both-left _ _ (both-right _ _ h), both-right _ _ (both-right _ _ h))
permits-test Seal c h = h
permits-test Unseal c h = h

test-permits : (right : Right) (c : CapValue) → Permits right c → permits_right right c ≡ true
test-permits Store c h = h
test-permits Load c h = h
test-permits Execute c h = h
test-permits Capabilities c h = rw (h.0, h.1) refl
test-permits Keep c h = rw (h.0, h.1, h.2) refl
test-permits Seal c h = h
test-permits Unseal c h = h

module _ (right : Right) (c : CapValue) where
  any-some : opens_any right c ≡ true → value_base c < value_top c
  any-some h = less (value_base c) (value_top c) (both-right _ _ h)

  bounds-opens : opens_any right c ≡ true → (a : ℕ) → IsIn (bounds_of c) a → Opens right c a
  bounds-opens h a inside =
      let allows : (not (is_sealed c) && permits_right right c) ≡ true = both-left _ _ h in
      record {
        allows = record {
          unsealed = not-true (is_sealed c) (both-left _ _ allows);
          permitted = permits-test right c (both-right _ _ allows);
        };
        base = inside.low;
        top = inside.high;
      }

  opens-bounds : (a : ℕ) → Opens right c a → IsIn (bounds_of c) a
  opens-bounds a o = record { low = o.base; high = o.top }

  opens-any : (a : ℕ) → Opens right c a → opens_any right c ≡ true
  opens-any a o =
      let base = o.base in
      let top = o.top in
      let some : value_base c < value_top c = omega arith in
      rw (o.allows.unsealed, test-permits right c o.allows.permitted, is_less (value_base c) (value_top c) some) refl

-- ---- the ranges of values

open-cons : (right : Right) (v : CapValue) (vs : List CapValue) (a : ℕ) → Opens right v a ⊎ IsOpen right vs a → IsOpen right (v ∷ vs) a
open-cons right v vs a (inl here) = record { value = v; is_one = (0, omega arith, refl); opens = here }
open-cons right v vs a (inr o) =
    let place : ℕ = o.is_one.0 in
    let below : place < length vs = o.is_one.1 in
    record { value = o.value; is_one = (suc place, omega arith, o.is_one.2); opens = o.opens }

open_at : (right : Right) (v : CapValue) (vs : List CapValue) (k : ℕ) (x : CapValue) → k < length (v ∷ vs) → get_or (v ∷ vs) k x ≡ x
    → (a : ℕ) → Opens right x a → Opens right v a ⊎ IsOpen right vs a
open_at right v vs zero x below at a opens = inl (subst (λ y. Opens right y a) (sym at) opens)
open_at right v vs (suc k) x below at a opens = inr (record { value = x; is_one = (k, omega arith, at); opens = opens })

open-cases : (right : Right) (v : CapValue) (vs : List CapValue) (a : ℕ) → IsOpen right (v ∷ vs) a → Opens right v a ⊎ IsOpen right vs a
open-cases right v vs a o = open_at right v vs o.is_one.0 o.value o.is_one.1 o.is_one.2 a o.opens

abbrev ranges_by : Range → List Range → Bool → List Range
ranges_by r rs any = if any then put_range r rs else rs

module _ (right : Right) where
  by-apart : (v : CapValue) (rs : List Range) (any : Bool) → opens_any right v ≡ any → AreApart rs
      → AreApart (ranges_by (bounds_of v) rs any)
  by-apart v rs true is apart = put-apart (bounds_of v) rs (any-some right v is) apart
  by-apart v rs false is apart = apart

  pub of-apart : (vs : List CapValue) → AreApart (ranges_of right vs)
  unfolding ranges_of
  of-apart [] = apart-none
  of-apart (v ∷ vs) = by-apart v (ranges_of right vs) (opens_any right v) refl (of-apart vs)

  by-open : (v : CapValue) (rs : List Range) (a : ℕ) (any : Bool) → opens_any right v ≡ any → IsInOne (ranges_by (bounds_of v) rs any) a
      → Opens right v a ⊎ IsInOne rs a
  by-open v rs a true is one = elim (in-put (bounds_of v) rs a one) [
    | inl mine ↦ inl (bounds-opens right v is a mine)
    | inr other ↦ inr other
  ]
  by-open v rs a false is one = inr one

  of-open : (vs : List CapValue) (a : ℕ) → IsInOne (ranges_of right vs) a → IsOpen right vs a
  unfolding ranges_of
  of-open [] a one = absurd (none-in a one)
  of-open (v ∷ vs) a one = elim (by-open v (ranges_of right vs) a (opens_any right v) refl one) [
    | inl here ↦ open-cons right v vs a (inl here)
    | inr other ↦ open-cons right v vs a (inr (of-open vs a other))
  ]

  open-by : (v : CapValue) (rs : List Range) (a : ℕ) (any : Bool) → opens_any right v ≡ any → Opens right v a ⊎ IsInOne rs a
      → IsInOne (ranges_by (bounds_of v) rs any) a
  open-by v rs a true is (inl here) = put-in (bounds_of v) rs a (inl (opens-bounds right v a here))
  open-by v rs a true is (inr other) = put-in (bounds_of v) rs a (inr other)
  open-by v rs a false is (inl here) = absurd (false≢true (sym is ∙ opens-any right v a here))
  open-by v rs a false is (inr other) = other

  open-of : (vs : List CapValue) (a : ℕ) → IsOpen right vs a → IsInOne (ranges_of right vs) a
  unfolding ranges_of
  open-of [] a o = let below : o.is_one.0 < 0 = o.is_one.1 in absurd (omega arith)
  open-of (v ∷ vs) a o = elim (open-cases right v vs a o) [
    | inl here ↦ open-by v (ranges_of right vs) a (opens_any right v) refl (inl here)
    | inr other ↦ open-by v (ranges_of right vs) a (opens_any right v) refl (inr (open-of vs a other))
  ]

-- ranges that are apart and have what values open are the values' ranges
pub are_ranges_of : (right : Right) (vs : List CapValue) (rs : List Range) → AreApart rs
    → ((a : ℕ) → IsInOne rs a ↔ IsOpen right vs a) → rs ≡ ranges_of right vs
are_ranges_of right vs rs apart same = determined rs (ranges_of right vs) apart (of-apart right vs) (λ a. (
  λ one. open-of right vs a ((same a).0 one),
  λ one. (same a).1 (of-open right vs a one),
))
