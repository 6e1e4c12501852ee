-- What the steps of the search append, in order, and what they leave.
use Rattle.std.proofs.Common.{◌≡◌, ℕ, zero, suc, ◌+◌, ◌-◌, ◌*◌, ◌<◌, ◌≤◌, Bool, true, false, cond, not, ◌&&◌, ◌||◌, eqb, ltb, leb}
use Rattle.std.proofs.Common.{List, [], ◌∷◌, ◌++◌, map, length, get_or, refl, sym, ap, ◌∙◌, subst, arith, inl, inr, ◌⊎◌, ⊎_elim, ◌/◌}
use Rattle.std.specs.Prelude.{◌^◌, Some, drop, slice_get, option_map, unwrap_or}
use Rattle.std.proofs.lemmas.List.{drop_more}
use Rattle.std.proofs.lemmas.Option.{slice_get_past, slice_get_cases}
use Rattle.std.proofs.Common.{append_assoc, append-nil}
use Rattle.std.proofs.lemmas.Bool.{false≢true, cases_eq, cases_lt, cases_Bool, eq-eqb, ne_eqb, le-leb, lt-ltb}
use Rattle.std.proofs.lemmas.Bool.{leb-true, ltb-true, and_parts, and_from, and_right, not-true, false_from_ne_true, cond-false}
use Rattle.std.proofs.lemmas.Bool.{not_from_false, or_right}
use Rattle.std.proofs.lemmas.List.Elements.{filter-append}
use Rattle.std.proofs.lemmas.List.Folds.{list_any-append}
use Rattle.std.specs.List.{filter, range_with_len}
use Rattle.base.specs.Ram.{ram_base}
use Rattle.cap_bounds.specs.CapValue.{CapValue, is_tagged, is_sealed, value_base, value_top, value_of}
use Rattle.cap_rights.specs.Permission.{permits}
use Rattle.cap_rights.specs.declared.permission.Permission.TheVariants as permission
use Rattle.cap_rights.specs.Rights.{OpensGranule}
use Rattle.tag_planes.specs.Planes.{tag_at, IsNextTag}
use Rattle.tag_planes.specs.PlanesLaws.{tag_at-past}
use Rattle.tagged_memory.specs.Memory.{Memory, has_tag, word_at, tagged_between}
use Rattle.reached.specs.declared.member.Place.{Place}
use Rattle.reached.specs.declared.member.Place.TheVariants.{Special, Granule}
use Rattle.reached.specs.Reached.{OpensCapabilities}
use Rattle.reached.specs.Order.{Found, found, among, tagged_from, opens_system, opens_capabilities, behind, is_same_place, is_found_at}
use Rattle.reached.specs.Order.{with_behind, search, members_of}
use Rattle.reached.specs.Search.{IsBetween}
use Rattle.reached.specs.Findings.{is_between, opens_granule, granule_found, found_left, AreFound, IsSystemFound, IsLeftBy, IsFoundBehind}

-- ---- truth values

and_true : (b : Bool) → (b && true) ≡ b
and_true true = refl
and_true false = refl

same_truth : (a b : Bool) → (a ≡ true → b ≡ true) → (b ≡ true → a ≡ true) → a ≡ b
same_truth a b there back = elim (cases_Bool a) [
  | inl met ↦ met ∙ sym (there met)
  | inr none ↦ none ∙ sym (false_from_ne_true b (λ met. false≢true (sym none ∙ back met)))
]

between_from : (first end g : ℕ) → IsBetween first end g → is_between first end g ≡ true
between_from first end g place = and_from (leb first g) (ltb g end) (le-leb first g place.0) (lt-ltb g end place.1)

between_to : (first end g : ℕ) → is_between first end g ≡ true → IsBetween first end g
between_to first end g met =
    let parts = and_parts (leb first g) (ltb g end) met in
    (leb-true first g parts.0, ltb-true g end parts.1)

-- ---- filtered rows of numbers

filter_row : (p q : ℕ → Bool) (a n : ℕ) → ((g : ℕ) → a ≤ g → p g ≡ q g)
    → filter p (range_with_len a n) ≡ filter q (range_with_len a n)
filter_row p q a zero same = refl
filter_row p q a (suc n) same =
    let rest = range_with_len (a + 1) n in
    ap (λ b. cond b (a ∷ filter p rest) (filter p rest)) (same a (omega arith))
    ∙ ap (λ xs. cond (q a) (a ∷ xs) xs) (filter_row p q (a + 1) n (λ g past. same g (omega arith)))

filter_none : (p : ℕ → Bool) (xs : List ℕ) → ((g : ℕ) → p g ≡ false) → filter p xs ≡ []
filter_none p [] none = refl
filter_none p (x ∷ xs) none = cond-false (p x) (x ∷ filter p xs) (filter p xs) (none x) ∙ filter_none p xs none

-- the first number that passes, and the others
filter_first : (p q : ℕ → Bool) (a n k : ℕ) → a ≤ k → k < a + n → ((g : ℕ) → g < k → p g ≡ false) → p k ≡ true → q k ≡ false
    → ((g : ℕ) → (g ≡ k → ⊥) → p g ≡ q g) → filter p (range_with_len a n) ≡ k ∷ filter q (range_with_len a n)
filter_first p q a zero k low high before here gone same = absurd (omega arith)
filter_first p q a (suc n) k low high before here gone same =
    let rest = range_with_len (a + 1) n in
    elim (cases_eq a k) [
      | inl e ↦
          ap (λ b. cond b (a ∷ filter p rest) (filter p rest)) (ap p e ∙ here)
          ∙ ap (λ x. x ∷ filter p rest) e
          ∙ ap (λ xs. k ∷ xs) (filter_row p q (a + 1) n (λ g past. same g (omega (arith, e))))
          ∙ ap (λ xs. k ∷ xs) (sym (cond-false (q a) (a ∷ filter q rest) (filter q rest) (ap q e ∙ gone)))
      | inr other ↦
          let none : p a ≡ false = before a (omega (arith, other)) in
          cond-false (p a) (a ∷ filter p rest) (filter p rest) none
          ∙ filter_first p q (a + 1) n k (omega (arith, other)) (omega arith) before here gone same
          ∙ ap (λ xs. k ∷ xs) (sym (cond-false (q a) (a ∷ filter q rest) (filter q rest) (sym (same a other) ∙ none)))
    ]

-- ---- granules that are taken one by one

pub record IsTaking (m : Memory) (from : ℕ) (before now : List Found) (left left_now : List ℕ) (first end : ℕ) : Type 0 where
  pub members :
      now ++ found_left m from left_now (is_between first end) ≡ before ++ found_left m from left (is_between first end)
  pub beside : (g : ℕ) → is_between first end g ≡ false → tag_at left_now g ≡ tag_at left g

pub IsTaking-begun : (m : Memory) (from : ℕ) (before : List Found) (left : List ℕ) (first end : ℕ)
    → IsTaking m from before before left left first end
IsTaking-begun m from before left first end = record { members = refl; beside = λ g other. refl }

module _ (m : Memory) (from : ℕ) (before now : List Found) (left left_now : List ℕ) (first end : ℕ)
    (t : IsTaking m from before now left left_now first end) where
  pub IsTaking-more : (next granule : ℕ) (new : List ℕ) → ((g : ℕ) → IsBetween first next g → tag_at left_now g ≡ false)
      → IsNextTag left_now next granule → first ≤ next → granule < end → granule < 64 * length left_now → length new ≡ length left_now
      → ((k : ℕ) → tag_at new k ≡ cond (eqb k granule) false (tag_at left_now k))
      → IsTaking m from before (now ++ granule_found m from granule ∷ []) left new first end
  IsTaking-more next granule new taken n low high inside same each =
      let these = is_between first end in
      let here : these granule ≡ true = let past = n.not_before in between_from first end granule (omega arith, high) in
      let gone : tag_at new granule ≡ false =
      each granule ∙ ap (λ b. cond b false (tag_at left_now granule)) (eq-eqb granule granule refl) in
      let other : (g : ℕ) → (g ≡ granule → ⊥) → tag_at left_now g ≡ tag_at new g =
      λ g ne. sym (each g ∙ cond-false (eqb g granule) false (tag_at left_now g) (ne_eqb g granule ne)) in
      let none : (g : ℕ) → g < granule → (tag_at left_now g && these g) ≡ false =
      λ g below. false_from_ne_true (tag_at left_now g && these g) (λ met.
      let parts = and_parts (tag_at left_now g) (these g) met in
      let place = between_to first end g parts.1 in
      false≢true (sym (⊎_elim (λ early. taken g (place.0, early)) (λ late. n.none_between g late below) (cases_lt g next)) ∙ parts.0)) in
      let split : found_left m from left_now these ≡ granule_found m from granule ∷ found_left m from new these =
      ap (map (granule_found m from)) (filter_first (λ g. tag_at left_now g && these g) (λ g. tag_at new g && these g) 0
      (64 * length left_now) granule (omega arith) (omega arith) none
      (and_from (tag_at left_now granule) (these granule) (n.tagged inside) here)
      (ap (λ b. b && these granule) gone)
      (λ g ne. ap (λ b. b && these g) (other g ne)))
      ∙ ap (λ k. granule_found m from granule
      ∷ map (granule_found m from) (filter (λ g. tag_at new g && these g) (range_with_len 0 (64 * k)))) (sym same) in
      record {
        members = append_assoc now (granule_found m from granule ∷ []) (found_left m from new these)
            ∙ ap (λ xs. now ++ xs) (sym split) ∙ t.members;
        beside = λ g out. sym (other g (λ e. false≢true (sym out ∙ ap these e ∙ here))) ∙ t.beside g out;
      }

  pub AreFound-taken : ((g : ℕ) → IsBetween first end g → tag_at left_now g ≡ false)
      → AreFound m from before now left left_now (is_between first end)
  AreFound-taken taken =
      let these = is_between first end in
      let none : (g : ℕ) → (tag_at left_now g && these g) ≡ false =
      λ g. false_from_ne_true (tag_at left_now g && these g) (λ met.
      let parts = and_parts (tag_at left_now g) (these g) met in
      false≢true (sym (taken g (between_to first end g parts.1)) ∙ parts.0)) in
      record {
        members = sym (append-nil now)
            ∙ ap (λ xs. now ++ map (granule_found m from) xs)
            (sym (filter_none (λ g. tag_at left_now g && these g) (range_with_len 0 (64 * length left_now)) none))
            ∙ t.members;
        rest = λ g. elim (cases_Bool (these g)) [
          | inl met ↦ taken g (between_to first end g met) ∙ sym (and_right (tag_at left g) (not (these g)) (ap not met))
          | inr out ↦ t.beside g out ∙ sym (ap (λ b. tag_at left g && not b) out ∙ and_true (tag_at left g))
        ];
      }

-- ---- what a capability opens

capabilities_truth : (c : CapValue) → OpensCapabilities c → opens_capabilities c ≡ true
capabilities_truth c opens =
    and_from (not (is_sealed c)) (permits c permission.Load && permits c permission.LoadCapability)
    (not_from_false (is_sealed c) opens.unsealed)
    (and_from (permits c permission.Load) (permits c permission.LoadCapability) opens.loads opens.capabilities)

capabilities_open : (c : CapValue) → opens_capabilities c ≡ true → OpensCapabilities c
capabilities_open c met =
    let parts = and_parts (not (is_sealed c)) (permits c permission.Load && permits c permission.LoadCapability) met in
    let both = and_parts (permits c permission.Load) (permits c permission.LoadCapability) parts.1 in
    record { unsealed = not-true (is_sealed c) parts.0; loads = both.0; capabilities = both.1 }

granule_truth : (c : CapValue) (g : ℕ) → OpensGranule c (ram_base + 16 * g) → opens_granule c g ≡ true
granule_truth c g opens =
    let a = ram_base + 16 * g in
    let low : value_base c ≤ a = opens.base in
    let high : a + 16 ≤ value_top c = opens.top in
    let below : a < value_top c - 15 = omega arith in
    and_from (opens_capabilities c) (leb (value_base c) a && ltb a (value_top c - 15))
    (capabilities_truth c (record { unsealed = opens.unsealed; loads = opens.loads; capabilities = opens.capabilities }))
    (and_from (leb (value_base c) a) (ltb a (value_top c - 15)) (le-leb (value_base c) a low) (lt-ltb a (value_top c - 15) below))

granule_opens : (c : CapValue) (g : ℕ) → opens_granule c g ≡ true → OpensGranule c (ram_base + 16 * g)
granule_opens c g met =
    let a = ram_base + 16 * g in
    let parts = and_parts (opens_capabilities c) (leb (value_base c) a && ltb a (value_top c - 15)) met in
    let both = and_parts (leb (value_base c) a) (ltb a (value_top c - 15)) parts.1 in
    let opens = capabilities_open c parts.0 in
    let below : a < value_top c - 15 = ltb-true a (value_top c - 15) both.1 in
    record {
      unsealed = opens.unsealed;
      loads = opens.loads;
      capabilities = opens.capabilities;
      base = leb-true (value_base c) a both.0;
      top = omega arith;
    }

-- nothing is found where nothing is opened
pub AreFound-none : (m : Memory) (from : ℕ) (before : List Found) (left : List ℕ) (c : CapValue) → (OpensCapabilities c → ⊥)
    → AreFound m from before before left left (opens_granule c)
AreFound-none m from before left c closed =
    let shut : opens_capabilities c ≡ false = false_from_ne_true (opens_capabilities c) (λ met. closed (capabilities_open c met)) in
    let none : (g : ℕ) → opens_granule c g ≡ false =
    λ g. ap (λ b. b && (leb (value_base c) (ram_base + 16 * g) && ltb (ram_base + 16 * g) (value_top c - 15))) shut in
    record {
      members = sym (append-nil before)
          ∙ ap (λ xs. before ++ map (granule_found m from) xs)
          (sym (filter_none (λ g. tag_at left g && opens_granule c g) (range_with_len 0 (64 * length left))
          (λ g. and_right (tag_at left g) (opens_granule c g) (none g))));
      rest = λ g. sym (ap (λ b. tag_at left g && not b) (none g) ∙ and_true (tag_at left g));
    }

-- what a capability opens was found where the granules are those that it opens, but for bare ones
pub AreFound-opened : (m : Memory) (from : ℕ) (before now : List Found) (left new : List ℕ) (c : CapValue) (first end : ℕ)
    → AreFound m from before now left new (is_between first end)
    → ((g : ℕ) → IsBetween first end g → OpensGranule c (ram_base + 16 * g))
    → ((g : ℕ) → g < 64 * length left → OpensGranule c (ram_base + 16 * g) → (tag_at left g ≡ false) ⊎ IsBetween first end g)
    → AreFound m from before now left new (opens_granule c)
AreFound-opened m from before now left new c first end f opens each =
    let same : (g : ℕ) → tag_at left g ≡ true → is_between first end g ≡ opens_granule c g =
    λ g tagged. same_truth (is_between first end g) (opens_granule c g)
    (λ met. granule_truth c g (opens g (between_to first end g met)))
    (λ met. elim (cases_lt g (64 * length left)) [
      | inl inside ↦ ⊎_elim (λ none. absurd (false≢true (sym none ∙ tagged))) (λ place. between_from first end g place)
          (each g inside (granule_opens c g met))
      | inr past ↦ absurd (false≢true (sym (tag_at-past left g past) ∙ tagged))
    ]) in
    record {
      members = f.members
          ∙ ap (λ xs. before ++ map (granule_found m from) xs)
          (filter_row (λ g. tag_at left g && is_between first end g) (λ g. tag_at left g && opens_granule c g) 0 (64 * length left)
          (λ g past. under (tag_at left g) (λ b. b) (is_between first end g) (opens_granule c g) (same g)));
      rest = λ g. f.rest g ∙ under (tag_at left g) not (is_between first end g) (opens_granule c g) (same g);
    }
  where
    under : (t : Bool) (f : Bool → Bool) (a b : Bool) → (t ≡ true → a ≡ b) → (t && f a) ≡ (t && f b)
    under t f a b same = elim t as (λ t. (t ≡ true → a ≡ b) → (t && f a) ≡ (t && f b)) [
      | true ↦ λ same. ap f (same refl)
      | false ↦ λ same. refl
    ] same

-- the first of the capabilities, where it is tagged
pub tagged_from-tagged : (place : ℕ → Place) (from n : ℕ) (v : CapValue) (vs : List CapValue) → is_tagged v ≡ true
    → tagged_from place from n (v ∷ vs) ≡ found v (place n) from ∷ tagged_from place from (n + 1) vs
tagged_from-tagged place from n v vs tagged =
    ap (λ b. cond b (found v (place n) from ∷ tagged_from place from (n + 1) vs) (tagged_from place from (n + 1) vs)) tagged

-- ---- where members are found

found_at-append : (xs ys : List Found) (p : Place) → is_found_at (xs ++ ys) p ≡ (is_found_at xs p || is_found_at ys p)
found_at-append xs ys p = list_any-append (λ y. is_same_place p y.place) xs ys

-- not at a place that none of them has
not_found_among : (place : ℕ → Place) (p : Place) (from n : ℕ) (vs : List CapValue) → ((k : ℕ) → is_same_place p (place k) ≡ false)
    → is_found_at (tagged_from place from n vs) p ≡ false
not_found_among place p from n [] other = refl
not_found_among place p from n (v ∷ vs) other =
    let rest = tagged_from place from (n + 1) vs in
    let later : is_found_at rest p ≡ false = not_found_among place p from (n + 1) vs other in
    elim (is_tagged v) as (λ b. is_found_at (cond b (found v (place n) from ∷ rest) rest) p ≡ false) [
      | true ↦ ap (λ b. b || is_found_at rest p) (other n) ∙ later
      | false ↦ later
    ]

-- each tagged one at its place
found_among : (from n k : ℕ) (d : CapValue) (vs : List CapValue) → k < length vs → is_tagged (get_or vs k d) ≡ true
    → is_found_at (tagged_from (among true) from n vs) (Special (n + k)) ≡ true
found_among from n k d [] below tagged = absurd (omega arith)
found_among from n zero d (v ∷ vs) below tagged =
    ap (λ xs. is_found_at xs (Special (n + 0))) (tagged_from-tagged (among true) from n v vs tagged)
    ∙ ap (λ b. b || is_found_at (tagged_from (among true) from (n + 1) vs) (Special (n + 0))) (eq-eqb (n + 0) n (omega arith))
found_among from n (suc k) d (v ∷ vs) below tagged =
    let rest = tagged_from (among true) from (n + 1) vs in
    let place : n + 1 + k ≡ n + suc k = omega arith in
    let later : is_found_at rest (Special (n + suc k)) ≡ true =
    subst (λ j. is_found_at rest (Special j) ≡ true) place (found_among from (n + 1) k d vs (omega arith) tagged) in
    elim (is_tagged v) as (λ b. is_found_at (cond b (found v (Special n) from ∷ rest) rest) (Special (n + suc k)) ≡ true) [
      | true ↦ or_right (eqb (n + suc k) n) (is_found_at rest (Special (n + suc k))) later
      | false ↦ later
    ]

-- a register is at no granule's place
not_found_granule : (m : Memory) (from n : ℕ) (gs : List ℕ) → is_found_at (map (granule_found m from) gs) (Special n) ≡ false
not_found_granule m from n [] = refl
not_found_granule m from n (g ∷ gs) = not_found_granule m from n gs

-- a granule is found where it passes
module _ (m : Memory) (from : ℕ) (r : ℕ → Bool) where
  granule_is_found : (a n g : ℕ) → a ≤ g → g < a + n → r g ≡ true
      → is_found_at (map (granule_found m from) (filter r (range_with_len a n))) (Granule (ram_base + 16 * g)) ≡ true
  granule_is_found a zero g low high passes = absurd (omega arith)
  granule_is_found a (suc n) g low high passes =
      let rest = filter r (range_with_len (a + 1) n) in
      let at : List ℕ → Bool = λ gs. is_found_at (map (granule_found m from) gs) (Granule (ram_base + 16 * g)) in
      elim (cases_eq a g) [
        | inl e ↦ ap (λ b. at (cond b (a ∷ rest) rest)) (ap r e ∙ passes)
            ∙ ap (λ b. b || at rest) (eq-eqb (ram_base + 16 * g) (ram_base + 16 * a) (omega (arith, e)))
        | inr other ↦
            let later : at rest ≡ true = granule_is_found (a + 1) n g (omega (arith, other)) (omega arith) passes in
            elim (r a) as (λ b. at (cond b (a ∷ rest) rest) ≡ true) [
              | true ↦ or_right (eqb (ram_base + 16 * g) (ram_base + 16 * a)) (at rest) later
              | false ↦ later
            ]
      ]

  granule_not_found : (gs : List ℕ) (g : ℕ) → r g ≡ false
      → is_found_at (map (granule_found m from) (filter r gs)) (Granule (ram_base + 16 * g)) ≡ false
  granule_not_found [] g fails = refl
  granule_not_found (x ∷ xs) g fails =
      let rest = filter r xs in
      let at : List ℕ → Bool = λ gs. is_found_at (map (granule_found m from) gs) (Granule (ram_base + 16 * g)) in
      let later : at rest ≡ false = granule_not_found xs g fails in
      elim (r x) as (λ b. r x ≡ b → at (cond b (x ∷ rest) rest) ≡ false) [
        | true ↦ λ passes. ap (λ b. b || at rest)
            (ne_eqb (ram_base + 16 * g) (ram_base + 16 * x)
            (λ e. let same : g ≡ x = omega (arith, e) in false≢true (sym fails ∙ ap r same ∙ passes))) ∙ later
        | false ↦ λ other. later
      ] refl

found_left_at : (m : Memory) (from : ℕ) (left : List ℕ) (these : ℕ → Bool) (g : ℕ)
    → is_found_at (found_left m from left these) (Granule (ram_base + 16 * g)) ≡ (tag_at left g && these g)
found_left_at m from left these g =
    let r : ℕ → Bool = λ k. tag_at left k && these k in
    elim (cases_Bool (r g)) [
      | inl met ↦ elim (cases_lt g (64 * length left)) [
        | inl inside ↦ granule_is_found m from r 0 (64 * length left) g (omega arith) (omega arith) met ∙ sym met
        | inr past ↦ absurd (false≢true (sym (tag_at-past left g past) ∙ (and_parts (tag_at left g) (these g) met).0))
      ]
      | inr fails ↦ granule_not_found m from r (range_with_len 0 (64 * length left)) g fails ∙ sym fails
    ]

-- ---- what is new through a member

abbrev pub is_new : List Found → Found → Bool
is_new members x = not (is_found_at members x.place)

module _ (members : List Found) (opened : Bool) where
  none_new : (f : Found) (more : List Found) → filter (is_new members) more ≡ cond (not opened) more []
      → is_found_at members f.place ≡ opened → filter (is_new members) (f ∷ more) ≡ cond (not opened) (f ∷ more) []
  none_new f more later here =
      let rest = filter (is_new members) more in
      ap (λ b. cond (not b) (f ∷ rest) rest) here
      ∙ step opened f rest more later
    where
      step : (o : Bool) (f : Found) (rest more : List Found) → rest ≡ cond (not o) more []
          → cond (not o) (f ∷ rest) rest ≡ cond (not o) (f ∷ more) []
      step true f rest more later = later
      step false f rest more later = ap (λ xs. f ∷ xs) later

  registers_new : (from n : ℕ) (vs : List CapValue)
      → ((k : ℕ) (d : CapValue) → k < length vs → is_tagged (get_or vs k d) ≡ true → is_found_at members (Special (n + k)) ≡ opened)
      → filter (is_new members) (tagged_from (among true) from n vs) ≡ cond (not opened) (tagged_from (among true) from n vs) []
  registers_new from n [] each = nothing opened []
    where
      nothing : (o : Bool) (xs : List Found) → xs ≡ cond (not o) xs xs
      nothing true xs = refl
      nothing false xs = refl
  registers_new from n (v ∷ vs) each =
      let rest = tagged_from (among true) from (n + 1) vs in
      let f = found v (Special n) from in
      let later : filter (is_new members) rest ≡ cond (not opened) rest [] =
      registers_new from (n + 1) vs (λ k d below tagged.
      let place : n + suc k ≡ n + 1 + k = omega arith in
      subst (λ j. is_found_at members (Special j) ≡ opened) place (each (suc k) d (omega arith) tagged)) in
      elim (is_tagged v) as (λ b. is_tagged v ≡ b
      → filter (is_new members) (cond b (f ∷ rest) rest) ≡ cond (not opened) (cond b (f ∷ rest) rest) []) [
        | true ↦ λ tagged.
            let place : n + 0 ≡ n = omega arith in
            none_new f rest later (subst (λ j. is_found_at members (Special j) ≡ opened) place (each 0 v (omega arith) tagged))
        | false ↦ λ other. later
      ] refl

system_new : (specials : List CapValue) (m : Memory) (members : List Found) (left : List ℕ) (opened : Bool) (from : ℕ) (c : CapValue)
    → IsLeftBy specials m members left opened
    → cond (opens_system c && not opened) (tagged_from (among true) from 0 specials) []
    ≡ filter (is_new members) (cond (opens_system c) (tagged_from (among true) from 0 specials) [])
system_new specials m members left opened from c s =
    let all = tagged_from (among true) from 0 specials in
    elim (opens_system c) as (λ b. cond (b && not opened) all [] ≡ filter (is_new members) (cond b all [])) [
      | true ↦ sym (registers_new members opened from 0 specials (λ k d below tagged.
          let place : k ≡ 0 + k = omega arith in
          subst (λ j. is_found_at members (Special j) ≡ opened) place (s.registers k d below tagged)))
      | false ↦ refl
    ]

module _ (m : Memory) (members : List Found) (left : List ℕ) (from : ℕ) (within : ℕ → Bool)
    (same : (g : ℕ) → tag_at left g ≡ (has_tag m (ram_base + 16 * g) && not (is_found_at members (Granule (ram_base + 16 * g))))) where
  abbrev pub seen_in : ℕ → Found
  seen_in a = found (value_of (word_at m a) true) (Granule a) from

  granules_new : (gs : List ℕ)
      → map (granule_found m from) (filter (λ g. tag_at left g && within (ram_base + 16 * g)) gs)
      ≡ filter (is_new members) (map seen_in (filter (λ a. has_tag m a && within a) (map (λ k. ram_base + 16 * k) gs)))
  granules_new [] = refl
  granules_new (g ∷ gs) =
      let a = ram_base + 16 * g in
      let ours = filter (λ g. tag_at left g && within (ram_base + 16 * g)) gs in
      let theirs = filter (λ a. has_tag m a && within a) (map (λ k. ram_base + 16 * k) gs) in
      ap (λ b. map (granule_found m from) (cond (b && within a) (g ∷ ours) ours)) (same g)
      ∙ step g (has_tag m a) (within a) (is_found_at members (Granule a)) refl ours theirs (granules_new gs)
    where
      step : (g : ℕ) (h w f : Bool) → is_found_at members (Granule (ram_base + 16 * g)) ≡ f → (ours theirs : List ℕ)
          → map (granule_found m from) ours ≡ filter (is_new members) (map seen_in theirs)
          → map (granule_found m from) (cond ((h && not f) && w) (g ∷ ours) ours)
          ≡ filter (is_new members) (map seen_in (cond (h && w) ((ram_base + 16 * g) ∷ theirs) theirs))
      step g false w f at ours theirs later = later
      step g true false true at ours theirs later = later
      step g true false false at ours theirs later = later
      step g true true true at ours theirs later =
          let rest = filter (is_new members) (map seen_in theirs) in
          later ∙ sym (ap (λ b. cond (not b) (seen_in (ram_base + 16 * g) ∷ rest) rest) at)
      step g true true false at ours theirs later =
          let rest = filter (is_new members) (map seen_in theirs) in
          ap (λ xs. granule_found m from g ∷ xs) later ∙ sym (ap (λ b. cond (not b) (seen_in (ram_base + 16 * g) ∷ rest) rest) at)

granules_all_new : (specials : List CapValue) (m : Memory) (members : List Found) (left : List ℕ) (opened : Bool) (from : ℕ) (c : CapValue)
    → 16 * (64 * length left) ≡ length m.bytes
    → IsLeftBy specials m members left opened
    → found_left m from left (opens_granule c)
    ≡ filter (is_new members) (cond (opens_capabilities c)
    (map (λ a. found (value_of (word_at m a) true) (Granule a) from) (tagged_between m (value_base c) (value_top c - 15))) [])
unfolding tagged_between
granules_all_new specials m members left opened from c words s =
    let within : ℕ → Bool = λ a. leb (value_base c) a && ltb a (value_top c - 15) in
    let there = map (λ a. found (value_of (word_at m a) true) (Granule a) from) (tagged_between m (value_base c) (value_top c - 15)) in
    let many : 64 * length left ≡ length m.bytes / 16 = omega (arith, words) in
    elim (opens_capabilities c) as (λ b.
    map (granule_found m from) (filter (λ g. tag_at left g && (b && within (ram_base + 16 * g))) (range_with_len 0 (64 * length left)))
    ≡ filter (is_new members) (cond b there [])) [
      | true ↦
          ap (λ n. map (granule_found m from) (filter (λ g. tag_at left g && within (ram_base + 16 * g)) (range_with_len 0 n))) many
          ∙ granules_new m members left from within s.granules (range_with_len 0 (length m.bytes / 16))
      | false ↦ ap (map (granule_found m from)) (filter_none (λ g. tag_at left g && false) (range_with_len 0 (64 * length left))
          (λ g. and_right (tag_at left g) false refl))
    ]

-- ---- one member is visited

module _ (specials : List CapValue) (m : Memory) (seen us ws : List Found) (left new : List ℕ) (opened now : Bool) (from : ℕ) (x : Found)
    (s : IsLeftBy specials m seen left opened) (system : IsSystemFound x.value specials from seen us opened now)
    (granules : AreFound m from us ws left new (opens_granule x.value)) where
  abbrev pub registers : List Found
  registers = cond (opens_system x.value && not opened) (tagged_from (among true) from 0 specials) []

  abbrev pub taken : List Found
  taken = found_left m from left (opens_granule x.value)

  whole : ws ≡ (seen ++ registers) ++ taken
  whole = granules.members ∙ ap (λ xs. xs ++ taken) system.members

  pub with_behind-visited : 16 * (64 * length left) ≡ length m.bytes → ws ≡ with_behind specials m seen from x
  with_behind-visited words =
      let theirs = cond (opens_system x.value) (tagged_from (among true) from 0 specials) [] in
      let granules_there = cond (opens_capabilities x.value) (map (λ a. found (value_of (word_at m a) true) (Granule a) from)
      (tagged_between m (value_base x.value) (value_top x.value - 15))) [] in
      whole ∙ append_assoc seen registers taken
      ∙ ap (λ xs. seen ++ xs)
      (ap (λ xs. xs ++ taken) (system_new specials m seen left opened from x.value s)
      ∙ ap (λ xs. filter (is_new seen) theirs ++ xs) (granules_all_new specials m seen left opened from x.value words s)
      ∙ sym (filter-append (is_new seen) theirs granules_there))

  at : (p : Place) → is_found_at ws p ≡ ((is_found_at seen p || is_found_at registers p) || is_found_at taken p)
  at p =
      ap (λ xs. is_found_at xs p) whole ∙ found_at-append (seen ++ registers) taken p
      ∙ ap (λ b. b || is_found_at taken p) (found_at-append seen registers p)

  no_register : (g : ℕ) → is_found_at registers (Granule g) ≡ false
  no_register g = elim (opens_system x.value && not opened)
      as (λ b. is_found_at (cond b (tagged_from (among true) from 0 specials) []) (Granule g) ≡ false) [
        | true ↦ not_found_among (among true) (Granule g) from 0 specials (λ k. refl)
        | false ↦ refl
      ]

  some_register : (n : ℕ) (d : CapValue) → n < length specials → is_tagged (get_or specials n d) ≡ true
      → is_found_at registers (Special n) ≡ (opens_system x.value && not opened)
  some_register n d below tagged = elim (opens_system x.value && not opened)
      as (λ b. is_found_at (cond b (tagged_from (among true) from 0 specials) []) (Special n) ≡ b) [
        | true ↦
            let place : 0 + n ≡ n = omega arith in
            subst (λ j. is_found_at (tagged_from (among true) from 0 specials) (Special j) ≡ true) place
            (found_among from 0 n d specials below tagged)
        | false ↦ refl
      ]

  pub IsLeftBy-visited : IsLeftBy specials m ws new now
  IsLeftBy-visited = record {
    granules = λ g.
        let a = ram_base + 16 * g in
        let f = is_found_at seen (Granule a) in
        let o = opens_granule x.value g in
        granules.rest g ∙ ap (λ t. t && not o) (s.granules g)
        ∙ left_granule (has_tag m a) f o
        ∙ sym (ap (λ b. has_tag m a && not b) (at (Granule a)
        ∙ ap (λ b. (f || b) || is_found_at taken (Granule a)) (no_register a)
        ∙ ap (λ b. (f || false) || b) (found_left_at m from left (opens_granule x.value) g ∙ ap (λ t. t && o) (s.granules g))));
    registers = λ n d below tagged.
        at (Special n)
        ∙ ap (λ b. (is_found_at seen (Special n) || is_found_at registers (Special n)) || b)
        (not_found_granule m from n (filter (λ g. tag_at left g && opens_granule x.value g) (range_with_len 0 (64 * length left))))
        ∙ ap (λ b. (is_found_at seen (Special n) || b) || false) (some_register n d below tagged)
        ∙ ap (λ b. (b || (opens_system x.value && not opened)) || false) (s.registers n d below tagged)
        ∙ opened_register opened (opens_system x.value) ∙ sym system.opens;
  }
    where
      left_granule : (h f o : Bool) → ((h && not f) && not o) ≡ (h && not ((f || false) || ((h && not f) && o)))
      left_granule false f o = refl
      left_granule true true o = refl
      left_granule true false o = refl

      opened_register : (b o : Bool) → ((b || (o && not b)) || false) ≡ (b || o)
      opened_register true o = refl
      opened_register false true = refl
      opened_register false false = refl

-- the search begins with the tagged roots
pub IsLeftBy-begun : (specials roots : List CapValue) (m : Memory) (left : List ℕ)
    → ((g : ℕ) → tag_at left g ≡ has_tag m (ram_base + 16 * g))
    → IsLeftBy specials m (tagged_from (among false) 0 0 roots) left false
IsLeftBy-begun specials roots m left same = record {
  granules = λ g.
      same g ∙ sym (ap (λ b. has_tag m (ram_base + 16 * g) && not b)
      (not_found_among (among false) (Granule (ram_base + 16 * g)) 0 0 roots (λ k. refl)) ∙ and_true (has_tag m (ram_base + 16 * g)));
  registers = λ n d below tagged. not_found_among (among false) (Special n) 0 0 roots (λ k. refl);
}

-- ---- the capabilities that are looked through

pub tagged_rest : {X : Type 0} (value : X → CapValue) (caps : List X) (place : ℕ → Place) (from n : ℕ) (y : X) → n < length caps
    → y ≡ get_or caps n y
    → tagged_from place from n (map value (drop n caps)) ≡ tagged_from place from n (value y ∷ map value (drop (n + 1) caps))
tagged_rest value caps place from n y below read =
    ap (λ xs. tagged_from place from n (map value xs)) (drop_more caps n y below ∙ ap (λ z. z ∷ drop (n + 1) caps) (sym read))

-- ---- the search, member by member

-- so many members are enough as there are below 2 ^ 64
abbrev pub GoesOn : List CapValue → List CapValue → Memory → List Found → ℕ → Type 0
GoesOn roots specials m members next = (n : ℕ) → n + next ≡ 2 ^ 64 → search n specials m members next ≡ members_of roots specials m

module _ (roots specials : List CapValue) (m : Memory) where
  pub GoesOn-begun : GoesOn roots specials m (tagged_from (among false) 0 0 roots) 0
  unfolding members_of
  GoesOn-begun n long = ap (λ k. search k specials m (tagged_from (among false) 0 0 roots) 0) (whole n long)
    where
      whole : (n : ℕ) → n + 0 ≡ 2 ^ 64 → n ≡ 2 ^ 64
      whole n long = omega (arith, long)

  search_more : (n : ℕ) (members ws : List Found) (next : ℕ) (x : Found) → slice_get members next ≡ Some x
      → ws ≡ with_behind specials m members next x → search n specials m ws (next + 1) ≡ search (suc n) specials m members next
  search_more n members ws next x here same =
      ap (λ ys. search n specials m ys (next + 1)) same
      ∙ sym (ap (λ o. unwrap_or (option_map (λ x. search n specials m (with_behind specials m members next x) (next + 1)) o) members) here)

  pub GoesOn-more : (members ws : List Found) (next : ℕ) (x : Found) → GoesOn roots specials m members next
      → slice_get members next ≡ Some x → ws ≡ with_behind specials m members next x → GoesOn roots specials m ws (next + 1)
  GoesOn-more members ws next x on here same n long =
      search_more n members ws next x here same ∙ on (suc n) (one_more n next (2 ^ 64) long)
    where
      one_more : (n next all : ℕ) → n + (next + 1) ≡ all → suc n + next ≡ all
      one_more n next all long = omega (arith, long)

  pub GoesOn-behind : (members ws : List Found) (next : ℕ) → GoesOn roots specials m members next
      → IsFoundBehind specials m members next ws → next < length members → GoesOn roots specials m ws (next + 1)
  GoesOn-behind members ws next on behind below = elim (slice_get_cases members next).1 [
    | inl (x, inside, here, is_it) ↦ GoesOn-more members ws next x on here (behind x here)
    | inr (past, none) ↦ absurd (omega (arith, past))
  ]

  search_done : (n : ℕ) (members : List Found) (next : ℕ) → length members ≤ next → search n specials m members next ≡ members
  search_done zero members next past = refl
  search_done (suc n) members next past =
      ap (λ o. unwrap_or (option_map (λ x. search n specials m (with_behind specials m members next x) (next + 1)) o) members)
      (slice_get_past members next past)

  pub GoesOn-done : (members : List Found) (next : ℕ) → GoesOn roots specials m members next → length members ≤ next → next ≤ 2 ^ 64
      → members ≡ members_of roots specials m
  GoesOn-done members next on past within =
      sym (search_done (2 ^ 64 - next) members next past) ∙ on (2 ^ 64 - next) (rest next (2 ^ 64) within)
    where
      rest : (next all : ℕ) → next ≤ all → all - next + next ≡ all
      rest next all within = omega (arith, within)
