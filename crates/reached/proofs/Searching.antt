-- The steps of the search.
use Rattle.std.proofs.Common.{◌≡◌, ℕ, ◌+◌, ◌*◌, ◌/◌, ◌-◌, ◌<◌, ◌≤◌, ◌++◌, Bool, true, false, cond, List, [], ◌∷◌, length, zero, suc, get_or}
use Rattle.std.proofs.Common.{drop, refl, sym, ap, ◌∙◌, subst, arith, inl, inr}
use Rattle.std.proofs.lemmas.Bool.{false≢true, cases_eq}
use Rattle.std.proofs.lemmas.List.{length-append, get_or_append_left, take-append-drop, get_or-take}
use Rattle.std.proofs.lemmas.List.Elements.{All-cons, All-append, All-get_or, All-weaker}
use Rattle.std.proofs.lemmas.List.Elements.{Contains-append_left, Contains-append_right}
use Rattle.std.specs.List.{All, Contains, filter}
use Rattle.base.specs.Ram.{ram_base}
use Rattle.cap_bounds.specs.CapValue.{CapValue, is_tagged, value_of}
use Rattle.cap_rights.specs.Rights.{OpensSystem, OpensGranule}
use Rattle.tag_planes.specs.Planes.{tag_at}
use Rattle.tagged_memory.specs.Memory.{Memory, has_tag, word_at, IsMemory}
use Rattle.tagged_memory.specs.MemoryLaws.{in_ram}
use Rattle.reached.specs.Reached.{IsHeldAt, IsReachedFrom, from_root, from_special, from_granule}
use Rattle.reached.specs.Search.{held, IsFoundThrough, IsOpened, IsBare, IsVisited, IsSearch, IsSystemOpened, kept, added}
use Rattle.reached.proofs.Opening.{fewer_before}

-- ---- filtered lists

pub Contains-filter : {X : Type 0} (p : X → Bool) (xs : List X) (x : X) → p x ≡ true → Contains xs x → Contains (filter p xs) x
Contains-filter p [] x passes there = there
Contains-filter p (y ∷ ys) x passes (zero, below, same) =
    let first : y ≡ x = same in
    subst (λ b. Contains (cond b (y ∷ filter p ys) (filter p ys)) x) (sym (ap p first ∙ passes)) (0, omega arith, first)
Contains-filter {X = X} p (y ∷ ys) x passes (suc k, below, same) =
    let later : Contains (filter p ys) x = Contains-filter p ys x passes (k, omega arith, same) in
    elim (p y) as (λ b. Contains (cond b (y ∷ filter p ys) (filter p ys)) x) [
      | true ↦ Contains-append_right (y ∷ []) (filter p ys) x later
      | false ↦ later
    ]

pub All-filtered : {X : Type 0} (p : X → Bool) (P : X → Type 0) (xs : List X) → ((x : X) → p x ≡ true → Contains xs x → P x)
    → All P (filter p xs)
All-filtered p P [] each = λ k d below. absurd (omega arith)
All-filtered {X = X} p P (y ∷ ys) each =
    let rest : All P (filter p ys) = All-filtered p P ys (λ x passes there. each x passes (Contains-append_right (y ∷ []) ys x there)) in
    elim (p y) as (λ b. p y ≡ b → All P (cond b (y ∷ filter p ys) (filter p ys))) [
      | true ↦ λ e. All-cons P y (filter p ys) (each y e (0, omega arith, refl)) rest
      | false ↦ λ e. rest
    ] refl

-- ---- the search

module _ (roots specials : List CapValue) (m : Memory) where
  -- what is found through a value stays found
  IsVisited-grown : (vs more : List CapValue) (c : CapValue) → IsVisited m specials vs c → IsVisited m specials (vs ++ more) c
  IsVisited-grown vs more c v = record {
    system = λ opens w tagged there. Contains-append_left vs more w (v.system opens w tagged there);
    granules = λ granule w opens here. Contains-append_left vs more w (v.granules granule w opens here);
  }

  visited_grown : (vs more : List CapValue) (next : ℕ) → next ≤ length vs
      → ((k : ℕ) (d : CapValue) → k < next → IsVisited m specials vs (get_or vs k d))
      → (k : ℕ) (d : CapValue) → k < next → IsVisited m specials (vs ++ more) (get_or (vs ++ more) k d)
  visited_grown vs more next some visited k d below =
      subst (IsVisited m specials (vs ++ more)) (sym (get_or_append_left vs more d k (omega arith)))
      (IsVisited-grown vs more (get_or vs k d) (visited k d below))

  -- the search begins with the tagged roots
  pub IsSearch-begun : (left : List ℕ) → 16 * (64 * length left) ≡ length m.bytes
      → ((g : ℕ) → tag_at left g ≡ has_tag m (ram_base + 16 * g))
      → IsSearch roots specials m (filter is_tagged roots) left false 0 0 0
  IsSearch-begun left words same = record {
    sound = All-filtered is_tagged (IsReachedFrom roots specials m) roots (λ x tagged there. from_root tagged there);
    roots_in = λ v tagged there. Contains-filter is_tagged roots v tagged there;
    specials_in = λ opened. absurd (false≢true opened);
    words = words;
    left_tagged = λ g h. sym (same g) ∙ h;
    bare = λ g place. absurd (omega (arith, place.1));
    found = λ g h. inl (same g ∙ h);
    some = omega arith;
    visited = λ k d below. absurd (omega arith);
  }

  -- the special registers come in
  pub IsSearch-system : (vs : List CapValue) (left : List ℕ) (opened : Bool) (first end next : ℕ) (c : CapValue)
      → IsSearch roots specials m vs left opened first end next → IsReachedFrom roots specials m c → OpensSystem c
      → IsSearch roots specials m (vs ++ filter is_tagged specials) left true first end next
  IsSearch-system vs left opened first end next c s reached opens =
      let more = filter is_tagged specials in
      record {
        sound = All-append (IsReachedFrom roots specials m) vs more s.sound
            (All-filtered is_tagged (IsReachedFrom roots specials m) specials (λ x tagged there. from_special reached opens tagged there));
        roots_in = λ v tagged there. Contains-append_left vs more v (s.roots_in v tagged there);
        specials_in = λ _ v tagged there. Contains-append_right vs more v (Contains-filter is_tagged specials v tagged there);
        words = s.words;
        left_tagged = s.left_tagged;
        bare = s.bare;
        found = λ g h. elim (s.found g h) [ inl still ↦ inl still | inr there ↦ inr (Contains-append_left vs more (held m g) there) ];
        some = let some = s.some in omega (arith, length-append vs more);
        visited = visited_grown vs more next s.some s.visited;
      }

  -- the special registers are among the values where the visited one opens them
  IsSearch-opened : (vs ws : List CapValue) (left : List ℕ) (opened now : Bool) (first end next : ℕ) (c : CapValue)
      → IsSearch roots specials m vs left opened first end next → IsReachedFrom roots specials m c
      → IsSystemOpened c specials vs opened ws now → IsSearch roots specials m ws left now first end next
  IsSearch-opened vs ws left opened now first end next c s reached (kept already same_values same_opened) =
      subst (λ xs. IsSearch roots specials m xs left now first end next) (sym same_values)
      (subst (λ b. IsSearch roots specials m vs left b first end next) (sym same_opened) s)
  IsSearch-opened vs ws left opened now first end next c s reached (added opens same_values same_opened) =
      subst (λ xs. IsSearch roots specials m xs left now first end next) (sym same_values)
      (subst (λ b. IsSearch roots specials m (vs ++ filter is_tagged specials) left b first end next) (sym same_opened)
      (IsSearch-system vs left opened first end next c s reached opens))

  system_visited : (vs ws : List CapValue) (opened now : Bool) (c : CapValue) → IsSystemOpened c specials vs opened ws now
      → OpensSystem c → now ≡ true
  system_visited vs ws opened now c (kept already same_values same_opened) opens = same_opened ∙ already opens
  system_visited vs ws opened now c (added _ same_values same_opened) opens = same_opened

  system_kept : (vs ws : List CapValue) (opened now : Bool) (c : CapValue) → IsSystemOpened c specials vs opened ws now
      → (k : ℕ) (d : CapValue) → k < length vs → (get_or ws k d ≡ get_or vs k d) × (k < length ws)
  system_kept vs ws opened now c (kept already same_values same_opened) k d below =
      (ap (λ xs. get_or xs k d) same_values, subst (λ xs. k < length xs) (sym same_values) below)
  system_kept vs ws opened now c (added opens same_values same_opened) k d below = (
    ap (λ xs. get_or xs k d) same_values ∙ get_or_append_left vs (filter is_tagged specials) d k below,
    subst (λ xs. k < length xs) (sym same_values) (omega (arith, length-append vs (filter is_tagged specials))),
  )

  -- what is through a reachable value is reachable
  through_reached : (c v : CapValue) → IsReachedFrom roots specials m c → IsFoundThrough m c v → IsReachedFrom roots specials m v
  through_reached c v reached through = from_granule through.granule reached through.opens through.here

  -- granules are taken
  IsSearch-granules : (vs ws : List CapValue) (left new : List ℕ) (opened : Bool) (first end f e next : ℕ)
      (c : CapValue) (These : ℕ → Type 0)
      → IsSearch roots specials m vs left opened first end next → IsReachedFrom roots specials m c → IsOpened m c vs ws left new These
      → IsBare f e new
      → IsSearch roots specials m ws new opened f e next
  IsSearch-granules vs ws left new opened first end f e next c These s reached o bare =
      let more = drop (length vs) ws in
      let whole : vs ++ more ≡ ws = ap (λ xs. xs ++ more) (sym o.kept) ∙ take-append-drop (length vs) ws in
      let some : next ≤ length vs = s.some in
      let fewer = fewer_before vs ws o.kept in
      let grows : (v : CapValue) → Contains vs v → Contains ws v =
      λ v there. subst (λ xs. Contains xs v) whole (Contains-append_left vs more v there) in
      record {
        sound = subst (All (IsReachedFrom roots specials m)) whole (All-append (IsReachedFrom roots specials m) vs more s.sound
            (All-weaker (IsFoundThrough m c) (IsReachedFrom roots specials m)
            (λ x through. through_reached c x reached through) more o.added));
        roots_in = λ v tagged there. grows v (s.roots_in v tagged there);
        specials_in = λ e v tagged there. grows v (s.specials_in e v tagged there);
        words = ap (λ n. 16 * (64 * n)) o.words ∙ s.words;
        left_tagged = λ g h. s.left_tagged g (o.fewer g h);
        bare = bare;
        found = λ g h. elim (s.found g h) [ inl still ↦ o.moved g still | inr there ↦ inr (grows (held m g) there) ];
        some = omega arith;
        visited = subst (λ xs. (k : ℕ) (d : CapValue) → k < next → IsVisited m specials xs (get_or xs k d)) whole
            (visited_grown vs more next some s.visited);
      }

  -- and then nothing that the value opens is left
  granules_visited : (vs ws : List CapValue) (left new : List ℕ) (opened : Bool) (first end next : ℕ) (c : CapValue) → IsMemory m
      → IsSearch roots specials m ws new opened first end next
      → IsOpened m c vs ws left new (λ g. OpensGranule c (ram_base + 16 * g))
      → (granule : ℕ) (v : CapValue) → OpensGranule c granule → IsHeldAt m granule v → Contains ws v
  granules_visited vs ws left new opened first end next c memory s o granule v opens here =
      let aligned = memory.granules_aligned granule here.tagged in
      let low : ram_base ≤ granule = (in_ram m granule 16 (memory.granules_in_ram granule here.tagged)).0 in
      let g = (granule - ram_base) / 16 in
      let place : granule ≡ ram_base + 16 * g = omega arith in
      let tagged : has_tag m (ram_base + 16 * g) ≡ true = subst (λ a. has_tag m a ≡ true) place here.tagged in
      let value : held m g ≡ v = sym (here.value ∙ ap (λ a. value_of (word_at m a) true) place) in
      elim (s.found g tagged) [
        | inl still ↦ absurd (false≢true (sym (o.taken g (subst (OpensGranule c) place opens)) ∙ still))
        | inr there ↦ subst (Contains ws) value there
      ]

  -- the granules that were taken leave the values before in their places
  granules_kept : (vs ws : List CapValue) (left new : List ℕ) (c : CapValue) (These : ℕ → Type 0) → IsOpened m c vs ws left new These
      → (k : ℕ) (d : CapValue) → k < length vs → (get_or ws k d ≡ get_or vs k d) × (k < length ws)
  granules_kept vs ws left new c These o k d below =
      let fewer = fewer_before vs ws o.kept in
      (sym (get_or-take (length vs) ws k d below) ∙ ap (λ xs. get_or xs k d) o.kept, omega arith)

  -- one value more is visited
  IsSearch-visited : (vs : List CapValue) (left : List ℕ) (opened : Bool) (first end next : ℕ)
      → IsSearch roots specials m vs left opened first end next → next < length vs
      → ((d : CapValue) → IsVisited m specials vs (get_or vs next d))
      → IsSearch roots specials m vs left opened first end (next + 1)
  IsSearch-visited vs left opened first end next s below here = record {
    sound = s.sound;
    roots_in = s.roots_in;
    specials_in = s.specials_in;
    words = s.words;
    left_tagged = s.left_tagged;
    bare = s.bare;
    found = s.found;
    some = omega arith;
    visited = λ k d within. elim (cases_eq k next) [
      | inl e ↦ subst (λ n. IsVisited m specials vs (get_or vs n d)) (sym e) (here d)
      | inr other ↦ s.visited k d (omega (arith, other))
    ];
  }

  -- a value has been visited once it has opened the system and its granules
  pub IsSearch-through : (vs us ws : List CapValue) (left new : List ℕ) (opened now : Bool) (first end f e next : ℕ)
      (c : CapValue) → IsMemory m
      → IsSearch roots specials m vs left opened first end next → next < length vs → ((d : CapValue) → get_or vs next d ≡ c)
      → IsSystemOpened c specials vs opened us now
      → IsOpened m c us ws left new (λ g. OpensGranule c (ram_base + 16 * g)) → IsBare f e new
      → IsSearch roots specials m ws new now f e (next + 1)
  IsSearch-through vs us ws left new opened now first end f e next c memory s below here system o bare =
      let Opens : ℕ → Type 0 = λ g. OpensGranule c (ram_base + 16 * g) in
      let reached : IsReachedFrom roots specials m c =
      subst (IsReachedFrom roots specials m) (here c) (All-get_or (IsReachedFrom roots specials m) vs next c below s.sound) in
      let t = IsSearch-opened vs us left opened now first end next c s reached system in
      let u = IsSearch-granules us ws left new now first end f e next c Opens t reached o bare in
      let first_place = system_kept vs us opened now c system next in
      let place = granules_kept us ws left new c Opens o next in
      IsSearch-visited ws new now f e next u (place c (first_place c below).1).1
      (λ d. subst (IsVisited m specials ws) (sym ((place d (first_place d below).1).0 ∙ (first_place d below).0 ∙ here d))
      (record {
        system = λ opens w tagged there. u.specials_in (system_visited vs us opened now c system opens) w tagged there;
        granules = λ granule w opens held_there. granules_visited us ws left new now f e next c memory u o granule w opens held_there;
      }))

  -- once each value is visited, whatever is reachable is among them
  pub complete : (vs : List CapValue) (left : List ℕ) (opened : Bool) (first end : ℕ)
      → IsSearch roots specials m vs left opened first end (length vs) → (v : CapValue) → IsReachedFrom roots specials m v → Contains vs v
  complete vs left opened first end s v (from_root tagged there) = s.roots_in v tagged there
  complete vs left opened first end s v (from_special {c = c} reached opens tagged there) =
      let at = complete vs left opened first end s c reached in
      let visited : IsVisited m specials vs c = subst (IsVisited m specials vs) at.2 (s.visited at.0 c at.1) in
      visited.system opens v tagged there
  complete vs left opened first end s v (from_granule {c = c} granule reached opens here) =
      let at = complete vs left opened first end s c reached in
      let visited : IsVisited m specials vs c = subst (IsVisited m specials vs) at.2 (s.visited at.0 c at.1) in
      visited.granules granule v opens here
