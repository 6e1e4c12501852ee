-- A search for the first value of which something holds.
use Rattle.std.proofs.Common.{◌≡◌, ℕ, ◌+◌, ◌<◌, ◌≤◌, List, length, get_or, map, ap, sym, subst, ◌∙◌, arith, inl, inr}
use Rattle.std.proofs.lemmas.Bool.{cases_eq}
use Rattle.std.proofs.lemmas.List.{get_or-map, length-map}
use Rattle.std.specs.List.{HoldsAt}
use Rattle.cap_bounds.specs.CapValue.{CapValue}
use Rattle.cap_rights.specs.Rights.{OpensStore}
use Rattle.reach.specs.declared.right.Right.TheVariants.{Store}
use Rattle.reach.specs.First.{IsFirst, HoldsOfNone}
use Rattle.reach.specs.Opens.{OpensSome}

-- it holds of none of the values below a place
abbrev pub HoldsBelow : (CapValue → Type 0) → List CapValue → ℕ → Type 0
HoldsBelow P vs place = (k : ℕ) → k < place → HoldsAt (λ v. P v → ⊥) vs k

module _ {X : Type 0} (P : CapValue → Type 0) (f : X → CapValue) (items : List X) (i : ℕ) (x : X) (below : i < length items)
    (read : x ≡ get_or items i x) where
  at : (d : CapValue) → get_or (map f items) i d ≡ f x
  at d = get_or-map f items i x d below ∙ ap f (sym read)

  -- one value more that fails
  pub below-more : (P (f x) → ⊥) → HoldsBelow P (map f items) i → HoldsBelow P (map f items) (i + 1)
  below-more fails before k within d holds = elim (cases_eq k i) [
    | inl same ↦ fails (subst P (ap (λ n. get_or (map f items) n d) same ∙ at d) holds)
    | inr other ↦ before k (omega (arith, other)) d holds
  ]

  pub first-here : P (f x) → HoldsBelow P (map f items) i → IsFirst P (map f items) i
  first-here holds before = record {
    inside = omega (arith, length-map items f);
    here = λ d. subst P (sym (at d)) holds;
    before = before;
  }

-- none of the values passes
pub none-all : (P : CapValue → Type 0) (vs : List CapValue) (n : ℕ) → length vs ≤ n → HoldsBelow P vs n → HoldsOfNone P vs
none-all P vs n all none v there holds =
    let place : ℕ = there.0 in
    let below : place < length vs = there.1 in
    none place (omega arith) v (subst P (sym there.2) holds)

-- ---- the same asked in other words

module _ (P Q : CapValue → Type 0) (there : (v : CapValue) → P v → Q v) (back : (v : CapValue) → Q v → P v) (vs : List CapValue) where
  pub IsFirst-other : (place : ℕ) → IsFirst P vs place → IsFirst Q vs place
  IsFirst-other place first = record {
    inside = first.inside;
    here = λ d. there (get_or vs place d) (first.here d);
    before = λ k below d holds. first.before k below d (back (get_or vs k d) holds);
  }

  pub HoldsOfNone-other : HoldsOfNone P vs → HoldsOfNone Q vs
  HoldsOfNone-other none v one holds = none v one (back v holds)

-- one byte is stored
pub store-some : (c : CapValue) (a : ℕ) → OpensSome Store c a 1 → OpensStore c a
store-some c a opens =
    let low = opens.low in
    let high = opens.high in
    let base = opens.opens.base in
    let top = opens.opens.top in
    record {
      unsealed = opens.opens.allows.unsealed;
      stores = opens.opens.allows.permitted;
      base = omega arith;
      top = omega arith;
    }

pub some-store : (c : CapValue) (a : ℕ) → OpensStore c a → OpensSome Store c a 1
some-store c a opens = record {
  byte = a;
  low = omega arith;
  high = omega arith;
  opens = record { allows = record { unsealed = opens.unsealed; permitted = opens.stores }; base = opens.base; top = opens.top };
}
