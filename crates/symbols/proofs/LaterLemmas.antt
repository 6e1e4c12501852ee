-- The names of an address one after the other, by how many symbols stand from each one's on.
use Rattle.std.proofs.Common.{◌≡◌, ℕ, zero, suc, ◌-◌, ◌<◌, ◌≤◌, true, false, List, [], ◌∷◌, ◌++◌, Option, Some, None, ◌⊎◌}
use Rattle.std.proofs.Common.{inl, inr, refl, ap, sym, ◌∙◌, length, length-append, arith}
use Rattle.std.specs.Prelude.{◌==◌, slice_get}
use Rattle.std.proofs.lemmas.Bool.Decides.{nat_tests}
use Rattle.symbols.specs.Places.{left_at, later_of, names_from, names_left}
use Rattle.symbols.specs.Symbols.{Symbol, names_among}
use Rattle.symbols.proofs.PlaceLemmas.{stands}

-- ---- what a list with one more item gives

got_within : {A : Type 0} (xs : List A) (p : ℕ) (z : A) → slice_get xs p ≡ Some z → p < length xs
got_within [] p z h = cc
got_within (x ∷ xs) zero z h = omega arith
got_within (x ∷ xs) (suc p) z h = omega (arith, got_within xs p z h)

got_last : {A : Type 0} (xs : List A) (y z : A) (p : ℕ) → slice_get (xs ++ (y ∷ [])) p ≡ Some z
    → (slice_get xs p ≡ Some z) ⊎ ((p ≡ length xs) × (y ≡ z))
got_last [] y z zero h = inr (refl, cc)
got_last [] y z (suc p) h = cc
got_last (x ∷ xs) y z zero h = inl h
got_last (x ∷ xs) y z (suc p) h = elim (got_last xs y z p h) [
  | inl before ↦ inl before
  | inr last ↦ inr (ap suc last.0, last.1)
]

got_none : {A : Type 0} (xs : List A) (p : ℕ) → slice_get xs p ≡ None → length xs ≤ p
got_none [] p h = omega arith
got_none (x ∷ xs) zero h = cc
got_none (x ∷ xs) (suc p) h = omega (arith, got_none xs p h)

-- ---- the first one

not_all : (ss : List Symbol) (n : ℕ) → n ≤ length ss → (suc (length ss) == n) ≡ false
not_all ss n h = grind (arith, nat_tests)

-- an address without a symbol has no name
no_names : (symbols : List Symbol) (address : ℕ) → left_at symbols address ≡ None → names_among symbols address ≡ []
no_names [] address h = refl
no_names (s ∷ ss) address h = elim (s.address == address) as (λ t. (s.address == address) ≡ t → names_among (s ∷ ss) address ≡ []) [
  | true ↦ λ e. let k : Some (suc (length ss)) ≡ None = rw e at h in cc
  | false ↦ λ e. let k : left_at ss address ≡ None = rw e at h in rw e (no_names ss address k)
] refl

-- from its first symbol on an address has all its names
names_stand : (symbols : List Symbol) (address n : ℕ) → left_at symbols address ≡ Some n
    → names_from symbols n ≡ names_among symbols address
names_stand [] address n h = cc
names_stand (s ∷ ss) address n h =
    elim (s.address == address) as (λ t. (s.address == address) ≡ t → names_from (s ∷ ss) n ≡ names_among (s ∷ ss) address) [
      | true ↦ λ e.
          let k : Some (suc (length ss)) ≡ Some n = rw e at h in
          let m : suc (length ss) ≡ n = cc in
          let same : s.address ≡ address = grind (arith, nat_tests) in
          let all : (suc (length ss) == n) ≡ true = grind (arith, nat_tests) in
          rw (e, all, same) refl
      | false ↦ λ e.
          let k : left_at ss address ≡ Some n = rw e at h in
          let less = not_all ss n (stands ss address n k).within in
          rw (e, less) (names_stand ss address n k)
    ] refl

pub first_names : (symbols : List Symbol) (address : ℕ) → names_left symbols (left_at symbols address) ≡ names_among symbols address
first_names symbols address =
    elim (left_at symbols address) as (λ o. left_at symbols address ≡ o → names_left symbols o ≡ names_among symbols address) [
      | None ↦ λ e. sym (no_names symbols address e)
      | Some n ↦ λ e. names_stand symbols address n e
    ] refl

-- ---- the next one

-- where fewer symbols stand, or no symbol is to stand, there is no name
pub names_past : (symbols : List Symbol) (n : ℕ) → (1 ≤ n → length symbols < n) → names_from symbols n ≡ []
names_past [] n h = refl
names_past (s ∷ ss) n h =
    let other : (suc (length ss) == n) ≡ false = grind (arith, nat_tests, h) in
    rw other (names_past ss n (λ some. omega (arith, h some)))

pub later_length : (symbols : List Symbol) → length (later_of symbols) ≡ length symbols
later_length [] = refl
later_length (s ∷ ss) = rw length-append (omega (arith, later_length ss))

later_within : (symbols : List Symbol) (p n : ℕ) → slice_get (later_of symbols) p ≡ Some (Some n) → n ≤ length symbols
later_within [] p n h = cc
later_within (s ∷ ss) p n h = elim (got_last (later_of ss) (left_at ss s.address) (Some n) p h) [
  | inl before ↦ omega (arith, later_within ss p n before)
  | inr last ↦ omega (arith, (stands ss s.address n last.1).within)
]

left_more : (s : Symbol) (ss : List Symbol) (next : Option ℕ) → ((n : ℕ) → next ≡ Some n → n ≤ length ss)
    → names_left (s ∷ ss) next ≡ names_left ss next
left_more s ss None h = refl
left_more s ss (Some n) h = let less = not_all ss n (h n refl) in rw less refl

-- the name of a symbol, and those from the next one of its address on
pub names_step : (symbols : List Symbol) (n : ℕ) (s : Symbol) (next : Option ℕ) → slice_get symbols (length symbols - n) ≡ Some s
    → 1 ≤ n → slice_get (later_of symbols) (n - 1) ≡ Some next → names_from symbols n ≡ s.name ∷ names_left symbols next
names_step [] n s next at some later = cc
names_step (x ∷ xs) n s next at some later = elim (got_last (later_of xs) (left_at xs x.address) next (n - 1) later) [
  | inl before ↦
      let few : n ≤ length xs = omega (arith, got_within (later_of xs) (n - 1) next before, later_length xs, some) in
      let less = not_all xs n few in
      let z : suc (length xs) - n ≡ suc (length xs - n) = omega (arith, few) in
      let here : slice_get xs (length xs - n) ≡ Some s = rw z at at in
      let within : (m : ℕ) → next ≡ Some m → m ≤ length xs =
      λ m e. later_within xs (n - 1) m (before ∙ ap Some e) in
      rw less (names_step xs n s next here some before ∙ ap (λ names. s.name ∷ names) (sym (left_more x xs next within)))
  | inr last ↦
      let m : suc (length xs) ≡ n = omega (arith, last.0, later_length xs, some) in
      let all : (suc (length xs) == n) ≡ true = grind (arith, nat_tests) in
      let z : suc (length xs) - n ≡ 0 = omega (arith, m) in
      let k : Some x ≡ Some s = rw z at at in
      let same : x ≡ s = cc in
      let within : (m : ℕ) → next ≡ Some m → m ≤ length xs = λ m e. (stands xs x.address m (last.1 ∙ e)).within in
      let rest : names_among xs x.address ≡ names_left (x ∷ xs) next =
      sym (first_names xs x.address) ∙ ap (names_left xs) last.1 ∙ sym (left_more x xs next within) in
      rw all (ap (λ names. x.name ∷ names) rest ∙ ap (λ y. y.name ∷ names_left (x ∷ xs) next) same)
]

-- a symbol whose next one is known stands there
pub none_past : (symbols : List Symbol) (n : ℕ) (next : Option ℕ) → slice_get symbols (length symbols - n) ≡ None → 1 ≤ n
    → slice_get (later_of symbols) (n - 1) ≡ Some next → names_from symbols n ≡ []
none_past symbols n next none some later =
    let within = got_within (later_of symbols) (n - 1) next later in
    let past = got_none symbols (length symbols - n) none in
    absurd (omega (arith, within, past, later_length symbols, some))
