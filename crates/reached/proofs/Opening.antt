-- The steps of taking the granules that a capability opens.
use Rattle.std.proofs.Common.{◌≡◌, ℕ, ◌+◌, ◌-◌, ◌*◌, ◌/◌, ◌%◌, ◌<◌, ◌≤◌, ◌++◌, true, false, cond, eqb, None, min, List, [], ◌∷◌, length}
use Rattle.std.proofs.Common.{take, drop, refl, sym, ap, ◌∙◌, subst, arith, inl, inr, ◌⊎◌, ⊎_elim, get_or}
use Rattle.std.proofs.lemmas.Bool.{false≢true, cases_eq, cases_lt, eq-eqb, ne_eqb, cond-true, cond-false, false_from_ne_true}
use Rattle.std.proofs.lemmas.List.{length-take, take-append-le, drop-append-le, take_all}
use Rattle.std.proofs.lemmas.List.Elements.{All-push, Contains-append_left, Contains-push}
use Rattle.std.proofs.Math.Seq.{drop-length}
use Rattle.std.specs.List.{All, Contains}
use Rattle.std.specs.Int.{bit_at}
use Rattle.base.specs.Ram.{ram_base}
use Rattle.cap_bounds.specs.CapValue.{CapValue, value_base, value_top}
use Rattle.cap_rights.specs.Rights.{OpensGranule}
use Rattle.tag_planes.specs.Planes.{tag_at, IsNextTag}
use Rattle.tag_planes.specs.PlanesLaws.{tag_at-past}
use Rattle.tagged_memory.specs.Memory.{Memory, has_tag, is_in_ram, place_fault}
use Rattle.tagged_memory.specs.Planes.{ArePlanes}
use Rattle.reached.specs.Reached.{OpensCapabilities}
use Rattle.reached.specs.Search.{held, IsBetween, granules_of, IsBare, IsFoundThrough, IsOpened, AreLeft}

-- an aligned granule in RAM may be loaded
pub place_fault-none : (m : Memory) (address : ℕ) → address % 16 ≡ 0 → is_in_ram m address 16 ≡ true → place_fault m address 16 ≡ None
unfolding place_fault
place_fault-none m address aligned inside = rw (eq-eqb (address % 16) 0 aligned, inside) refl

-- nothing has been appended yet
pub none_added : {X : Type 0} (P : X → Type 0) (xs : List X) → All P (drop (length xs) xs)
none_added P xs = rw (drop-length xs) (λ k d below. absurd (omega arith))

-- nothing is taken where no tag is left
pub IsOpened-none : (m : Memory) (c : CapValue) (vs : List CapValue) (left : List ℕ) (These : ℕ → Type 0)
    → ((g : ℕ) → These g → tag_at left g ≡ false) → IsOpened m c vs vs left left These
IsOpened-none m c vs left These bare = record {
  kept = take_all (length vs) vs (omega arith);
  added = none_added (IsFoundThrough m c) vs;
  words = refl;
  fewer = λ g h. h;
  moved = λ g h. inl h;
  taken = bare;
}

-- a tag that isn't left is not left later
gone : (left new : List ℕ) → ((g : ℕ) → tag_at new g ≡ true → tag_at left g ≡ true) → (g : ℕ) → tag_at left g ≡ false → tag_at new g ≡ false
gone left new fewer g none = false_from_ne_true (tag_at new g) (λ tagged. false≢true (sym none ∙ fewer g tagged))

-- the tags of granules have been taken where none was left, and where those of others were that they are among
pub IsOpened-these : (m : Memory) (c : CapValue) (vs ws : List CapValue) (left new : List ℕ) (Those These : ℕ → Type 0)
    → IsOpened m c vs ws left new Those
    → ((g : ℕ) → g < 64 * length left → These g → (tag_at left g ≡ false) ⊎ Those g)
    → IsOpened m c vs ws left new These
IsOpened-these m c vs ws left new Those These o each = record {
  kept = o.kept;
  added = o.added;
  words = o.words;
  fewer = o.fewer;
  moved = o.moved;
  taken = λ g this. elim (cases_lt g (64 * length left)) [
    | inl inside ↦ ⊎_elim (λ none. gone left new o.fewer g none) (λ that. o.taken g that) (each g inside this)
    | inr past ↦ tag_at-past new g (omega (arith, o.words))
  ];
}

-- the values before are not more
pub fewer_before : (vs ws : List CapValue) → take (length vs) ws ≡ vs → length vs ≤ length ws
fewer_before vs ws kept = let e = ap length kept in omega (arith, length-take (length vs) ws)

-- a tag that is cleared
cleared_tag : (now new : List ℕ) (granule : ℕ) → ((k : ℕ) → tag_at new k ≡ cond (eqb k granule) false (tag_at now k))
    → (g : ℕ) → g ≡ granule → tag_at new g ≡ false
cleared_tag now new granule each g same = each g ∙ cond-true (eqb g granule) false (tag_at now g) (eq-eqb g granule same)

other_tag : (now new : List ℕ) (granule : ℕ) → ((k : ℕ) → tag_at new k ≡ cond (eqb k granule) false (tag_at now k))
    → (g : ℕ) → (g ≡ granule → ⊥) → tag_at new g ≡ tag_at now g
other_tag now new granule each g other = each g ∙ cond-false (eqb g granule) false (tag_at now g) (ne_eqb g granule other)

module _ (m : Memory) (c : CapValue) (vs ws : List CapValue) (left now : List ℕ) (first next granule : ℕ)
    (o : IsOpened m c vs ws left now (IsBetween first next)) (n : IsNextTag now next granule) where
  -- up to the next tag none is left
  pub IsOpened-to : (end : ℕ) → end ≤ granule → IsOpened m c vs ws left now (IsBetween first end)
  IsOpened-to end below = record {
    kept = o.kept;
    added = o.added;
    words = o.words;
    fewer = o.fewer;
    moved = o.moved;
    taken = λ g place.
        ⊎_elim (λ before. o.taken g (place.0, before)) (λ after. n.none_between g after (omega (arith, place.1))) (cases_lt g next);
  }

  -- the next tag is taken
  pub IsOpened-more : (new : List ℕ) (w : CapValue) → granule < 64 * length now → AreLeft m left → OpensGranule c (ram_base + 16 * granule)
      → w ≡ held m granule
      → length new ≡ length now
      → ((k : ℕ) → tag_at new k ≡ cond (eqb k granule) false (tag_at now k))
      → IsOpened m c vs (ws ++ w ∷ []) left new (IsBetween first (granule + 1))
  IsOpened-more new w inside tags opens value same each =
      let some : length vs ≤ length ws = fewer_before vs ws o.kept in
      let here : tag_at now granule ≡ true = n.tagged inside in
      let through : IsFoundThrough m c w = record {
        granule = ram_base + 16 * granule;
        opens = opens;
        here = record { tagged = tags granule (o.fewer granule here); value = value };
      } in
      record {
        kept = take-append-le (length vs) ws (w ∷ []) some ∙ o.kept;
        added = rw (drop-append-le (length vs) ws (w ∷ []) some)
            (All-push (IsFoundThrough m c) (drop (length vs) ws) w o.added through);
        words = same ∙ o.words;
        fewer = λ g h.
            o.fewer g (⊎_elim (λ e. absurd (false≢true (sym (cleared_tag now new granule each g e) ∙ h)))
            (λ other. sym (other_tag now new granule each g other) ∙ h) (cases_eq g granule));
        moved = λ g h. elim (o.moved g h) [
          | inl still ↦ elim (cases_eq g granule) [
            | inl e ↦ inr (subst (Contains (ws ++ w ∷ [])) (value ∙ ap (held m) (sym e)) (Contains-push ws w))
            | inr other ↦ inl (other_tag now new granule each g other ∙ still)
          ]
          | inr found ↦ inr (Contains-append_left ws (w ∷ []) (held m g) found)
        ];
        taken = λ g place. elim (cases_eq g granule) [
          | inl e ↦ cleared_tag now new granule each g e
          | inr other ↦
              let below : g < granule = omega (arith, place.1, other) in
              other_tag now new granule each g other
              ∙ ⊎_elim (λ before. o.taken g (place.0, before)) (λ after. n.none_between g after below) (cases_lt g next)
        ];
      }

-- the granules of a value's bounds are those that it opens
pub opened_granule : (c : CapValue) (count g : ℕ) → OpensCapabilities c → IsBetween (granules_of count c).first (granules_of count c).end g
    → OpensGranule c (ram_base + 16 * g)
opened_granule c count g opens place =
    let low : min count ((value_base c - ram_base + 15) / 16) ≤ g = place.0 in
    let high : g < min count ((value_top c - ram_base) / 16) = place.1 in
    record {
      unsealed = opens.unsealed;
      loads = opens.loads;
      capabilities = opens.capabilities;
      base = omega arith;
      top = omega arith;
    }

pub granule_opened : (c : CapValue) (count g : ℕ) → g < count → OpensGranule c (ram_base + 16 * g)
    → IsBetween (granules_of count c).first (granules_of count c).end g
granule_opened c count g inside opens =
    let base : value_base c ≤ ram_base + 16 * g = opens.base in
    let top : ram_base + 16 * g + 16 ≤ value_top c = opens.top in
    (omega arith, omega arith)

-- where two rows of granules are bare, so is what they hold
pub IsBare-either : (first end first_too end_too f e : ℕ) (left : List ℕ) → IsBare first end left → IsBare first_too end_too left
    → ((g : ℕ) → IsBetween f e g → IsBetween first end g ⊎ IsBetween first_too end_too g) → IsBare f e left
IsBare-either first end first_too end_too f e left bare bare_too either g place =
    ⊎_elim (λ here. bare g here) (λ there. bare_too g there) (either g place)

-- a row stays bare while tags are taken
pub IsBare-fewer : (first end : ℕ) (left new : List ℕ) → ((g : ℕ) → tag_at new g ≡ true → tag_at left g ≡ true) → IsBare first end left
    → IsBare first end new
IsBare-fewer first end left new fewer bare g place = gone left new fewer g (bare g place)

-- the copied planes are memory's tags
pub planes-tag : (planes : List ℕ) (m : Memory) → ArePlanes planes m → (g : ℕ) → tag_at planes g ≡ has_tag m (ram_base + 16 * g)
planes-tag planes m are g =
    let bit = bit_at (get_or planes (g / 64) 0) (g % 64) in
    let place : ram_base + 16 * (64 * (g / 64) + g % 64) ≡ ram_base + 16 * g = omega arith in
    let each = are.bit_each (g / 64) (g % 64) (omega arith) in
    elim (cases_eq bit 1) [
      | inl one_bit ↦ eq-eqb bit 1 one_bit ∙ sym (subst (λ a. has_tag m a ≡ true) place (each.0 one_bit))
      | inr other ↦ ne_eqb bit 1 other
          ∙ sym (false_from_ne_true (has_tag m (ram_base + 16 * g))
          (λ tagged. other (each.1 (subst (λ a. has_tag m a ≡ true) (sym place) tagged))))
    ]
