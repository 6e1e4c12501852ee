-- The first symbol of an address and the nearest_among one below an address, by how many symbols stand from them on.
use Rattle.std.proofs.Common.{◌≡◌, ℕ, suc, ◌-◌, ◌≤◌, true, false, ◌&&◌, List, [], ◌∷◌, Some, None, refl}
use Rattle.std.proofs.Common.{length, sym, ◌∙◌, subst, arith}
use Rattle.std.specs.Prelude.{◌==◌, nat_le, slice_get, IsSome}
use Rattle.std.proofs.lemmas.Bool.Decides.{nat_tests}
use Rattle.symbols.specs.Places.{left_at}
use Rattle.symbols.specs.Symbols.{Symbol, is_not_below, name_among, names_among, nearest_among}

itself : (n : ℕ) → (n == n) ≡ true
itself n = grind (arith, nat_tests)

-- the symbol from which on so many stand has the address
pub record Stands (symbols : List Symbol) (address n : ℕ) : Type 0 where
  pub within : n ≤ length symbols
  pub some : 1 ≤ n
  pub first : Symbol
  pub there : slice_get symbols (length symbols - n) ≡ Some first
  pub place : first.address ≡ address

pub stands : (symbols : List Symbol) (address n : ℕ) → left_at symbols address ≡ Some n → Stands symbols address n
stands [] address n h = cc
stands (s ∷ ss) address n h = elim (s.address == address) as (λ t. (s.address == address) ≡ t → Stands (s ∷ ss) address n) [
  | true ↦ λ e.
      let k : Some (suc (length ss)) ≡ Some n = rw e at h in
      let m : suc (length ss) ≡ n = cc in
      let z : suc (length ss) - suc (length ss) ≡ 0 = omega arith in
      subst (Stands (s ∷ ss) address) m (record {
        within = omega arith;
        some = omega arith;
        first = s;
        there = rw z refl;
        place = grind (arith, nat_tests);
      })
  | false ↦ λ e.
      let k : left_at ss address ≡ Some n = rw e at h in
      let r = stands ss address n k in
      let z : suc (length ss) - n ≡ suc (length ss - n) = omega (arith, r.within) in
      record {
        within = omega (arith, r.within);
        some = r.some;
        first = r.first;
        there = rw z r.there;
        place = r.place;
      }
] refl

-- the name of an address is the first of its names
pub first_name : (symbols : List Symbol) (address : ℕ) → name_among symbols address ≡ slice_get (names_among symbols address) 0
first_name [] address = refl
first_name (s ∷ ss) address = elim (s.address == address) as (λ t. (s.address == address) ≡ t
    → name_among (s ∷ ss) address ≡ slice_get (names_among (s ∷ ss) address) 0) [
      | true ↦ λ e. rw e refl
      | false ↦ λ e. rw e (first_name ss address)
    ] refl

-- an address has a symbol still where one more stands before the others, and that symbol's has one
more : (s : Symbol) (ss : List Symbol) (q : ℕ) → IsSome (left_at ss q) → IsSome (left_at (s ∷ ss) q)
more s ss q h = elim (s.address == q) as (λ t. (s.address == q) ≡ t → IsSome (left_at (s ∷ ss) q)) [
  | true ↦ λ e. rw e refl
  | false ↦ λ e. rw e h
] refl

own : (s : Symbol) (ss : List Symbol) → IsSome (left_at (s ∷ ss) s.address)
own s ss = let e = itself s.address in rw e refl

-- what is found lies at the address or below it
found_below : (symbols : List Symbol) (address : ℕ) (s : Symbol) → nearest_among symbols address ≡ Some s
    → (s.address ≤ address) × IsSome (left_at symbols s.address)
found_below [] address s h = cc
found_below (x ∷ xs) address s h =
    elim (nat_le x.address address && is_not_below x (nearest_among xs address)) as (λ t.
    (nat_le x.address address && is_not_below x (nearest_among xs address)) ≡ t
    → (s.address ≤ address) × IsSome (left_at (x ∷ xs) s.address)) [
      | true ↦ λ e.
          let k : Some x ≡ Some s = rw e at h in
          let m : x ≡ s = cc in
          let below : x.address ≤ address = grind (arith, nat_tests) in
          subst (λ y. (y.address ≤ address) × IsSome (left_at (x ∷ xs) y.address)) m (below, own x xs)
      | false ↦ λ e.
          let k : nearest_among xs address ≡ Some s = rw e at h in
          let r = found_below xs address s k in
          (r.0, more x xs s.address r.1)
    ] refl

abbrev IsGreatest : List Symbol → ℕ → ℕ → Type 0
IsGreatest symbols address place = (q : ℕ) → q ≤ address → IsSome (left_at symbols q) → q ≤ place

not_below : (s : Symbol) (ss : List Symbol) (address : ℕ) → IsGreatest (s ∷ ss) address s.address
    → is_not_below s (nearest_among ss address) ≡ true
not_below s ss address greatest = elim (nearest_among ss address) as (λ o. nearest_among ss address ≡ o → is_not_below s o ≡ true) [
  | None ↦ λ e. refl
  | Some y ↦ λ e.
      let b = found_below ss address y e in
      let least = greatest y.address b.0 (more s ss y.address b.1) in
      grind (arith, nat_tests)
] refl

-- The nearest_among symbol is the first of the greatest address that has one and isn't above.
pub nearest_stands : (symbols : List Symbol) (address place n : ℕ) → left_at symbols place ≡ Some n → place ≤ address
    → ((q : ℕ) → q ≤ address → IsSome (left_at symbols q) → q ≤ place)
    → nearest_among symbols address ≡ slice_get symbols (length symbols - n)
nearest_stands [] address place n h below greatest = cc
nearest_stands (s ∷ ss) address place n h below greatest = elim (s.address == place) as (λ t. (s.address == place) ≡ t
    → nearest_among (s ∷ ss) address ≡ slice_get (s ∷ ss) (length (s ∷ ss) - n)) [
      | true ↦ λ e.
          let k : Some (suc (length ss)) ≡ Some n = rw e at h in
          let m : suc (length ss) ≡ n = cc in
          let z : suc (length ss) - n ≡ 0 = omega (arith, m) in
          let same : s.address ≡ place = grind (arith, nat_tests) in
          let here : nat_le s.address address ≡ true = grind (arith, nat_tests) in
          let first = not_below s ss address (λ q l i. omega (arith, greatest q l i, same)) in
          rw (z, here, first) refl
      | false ↦ λ e.
          let k : left_at ss place ≡ Some n = rw e at h in
          let r = stands ss place n k in
          let z : suc (length ss) - n ≡ suc (length ss - n) = omega (arith, r.within) in
          let near = nearest_stands ss address place n k below (λ q l i. greatest q l (more s ss q i)) ∙ r.there in
          let up : (s.address ≤ address) → s.address ≤ place = λ l. greatest s.address l (own s ss) in
          let at = r.place in
          let not : (nat_le s.address address && nat_le r.first.address s.address) ≡ false = grind (arith, nat_tests, up, at, e) in
          rw (near, not, z) (sym r.there)
    ] refl

pub nearest_none : (symbols : List Symbol) (address : ℕ) → ((q : ℕ) → q ≤ address → left_at symbols q ≡ None)
    → nearest_among symbols address ≡ None
nearest_none [] address h = refl
nearest_none (s ∷ ss) address h =
    let rest : (q : ℕ) → q ≤ address → left_at ss q ≡ None = λ q l. elim (s.address == q) as (λ t. (s.address == q) ≡ t
    → left_at ss q ≡ None) [
      | true ↦ λ e. let k : Some (suc (length ss)) ≡ None = rw e at (h q l) in cc
      | false ↦ λ e. rw e at (h q l)
    ] refl in
    let near = nearest_none ss address rest in
    elim (nat_le s.address address) as (λ t. nat_le s.address address ≡ t → nearest_among (s ∷ ss) address ≡ None) [
      | true ↦ λ e.
          let l : s.address ≤ address = grind (arith, nat_tests) in
          let i = itself s.address in
          let k : Some (suc (length ss)) ≡ None = rw i at (h s.address l) in
          cc
      | false ↦ λ e. rw (e, near) refl
    ] refl
