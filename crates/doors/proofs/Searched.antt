-- What a search finds once no round opens a door more.
use Rattle.std.proofs.Common.{◌≡◌, ℕ, ◌-◌, ◌^◌, ◌<◌, ◌≤◌, true, List, [], ◌∷◌, ◌++◌, length, get_or, take, drop, refl, sym, ap, ◌∙◌, subst}
use Rattle.std.proofs.Common.{arith, inl, inr, map}
use Rattle.std.proofs.lemmas.Bool.{cases_lt}
use Rattle.std.proofs.lemmas.List.{append_assoc, append-nil, get_or-map, length-map, length-append, get_or_append_left, get_or-append_right}
use Rattle.std.proofs.lemmas.List.{take-append-le, take-append-drop, nil_from_length}
use Rattle.std.proofs.lemmas.List.Elements.{Contains-append_left, Contains-append_right, Contains-append_cases, Contains-get_or}
use Rattle.std.proofs.lemmas.Option.{slice_get_read, slice_get_within, get_or_from_slice_get}
use Rattle.std.proofs.Math.Seq.{take-append-add}
use Rattle.std.specs.List.{Contains}
use Rattle.cap_bounds.specs.CapValue.{CapValue, is_tagged}
use Rattle.cap_rights.specs.Opened.{opened}
use Rattle.tagged_memory.specs.Memory.{Memory}
use Rattle.steps.specs.State.{State}
use Rattle.reached.specs.declared.member.Member.{Member}
use Rattle.reached.specs.declared.member.Place.{Place}
use Rattle.reached.specs.declared.member.Place.TheVariants.{Root, Special, Granule}
use Rattle.reached.specs.Links.{IsLinked, in_root, in_special, in_granule, values, AreLinked}
use Rattle.reached.specs.Order.{Found, members_of, seen_members}
use Rattle.reached.specs.Reached.{IsReachedFrom, from_root, from_special, from_granule}
use Rattle.doors.specs.declared.through.Door.{Door}
use Rattle.doors.specs.Closed.{IsClosed, IsOpenedBy, HasDoors}
use Rattle.doors.specs.Doors.{IsReachableThroughDoors, from_root as through-root, from_special as through-special}
use Rattle.doors.specs.Doors.{from_granule as through-granule, behind_door}
use Rattle.doors.specs.DoorsLaws.{doors-least}
use Rattle.doors.specs.SetLaws.{tagged-opened}
use Rattle.doors.specs.Roots.{roots_of, specials_of}
use Rattle.doors.specs.RootsLaws.{root_there, there_root, special_there, there_special}
use Rattle.doors.specs.Through.{AreReachableThroughDoors, IsAt, AreApart, IsDoor, AreDoors, AreLinkedThroughDoors}
use Rattle.doors.specs.ThroughOrder.{open_doors, round as round_over, members_behind, round_of, doors_in, members_through}
use Rattle.doors.proofs.Rounds.{IsOpen, IsDoorAmong, AreDoorsAmong, IsRound}
use Rattle.doors.proofs.Ordered.{round_of-is, GoesOn, GoesOn-begun, GoesOn-more, doors-done, members-done, values_seen}

-- ---- what is reached from roots

reached-tagged : (roots specials : List CapValue) (m : Memory) (v : CapValue) → IsReachedFrom roots specials m v → is_tagged v ≡ true
reached-tagged roots specials m v (from_root tagged there) = tagged
reached-tagged roots specials m v (from_special before opens tagged there) = tagged
reached-tagged roots specials m v (from_granule granule before opens here) = ap is_tagged here.value

-- from roots that are reachable through doors all is
through-reached : (s : State) (roots : List CapValue)
    → ((v : CapValue) → is_tagged v ≡ true → Contains roots v → IsReachableThroughDoors s v)
    → (v : CapValue) → IsReachedFrom roots (specials_of s.scrs) s.memory v → IsReachableThroughDoors s v
through-reached s roots begun v (from_root tagged there) = begun v tagged there
through-reached s roots begun v (from_special {c = c} before opens tagged there) =
    through-special (through-reached s roots begun c before) opens tagged (special_there s v there)
through-reached s roots begun v (from_granule {c = c} granule before opens here) =
    through-granule granule (through-reached s roots begun c before) opens (record { tagged = here.tagged; value = here.value })

-- ---- places

at-grown : (roots more : List CapValue) (s : State) (place : Place) (v : CapValue) → IsAt roots s place v → IsAt (roots ++ more) s place v
at-grown roots more s (Root n) v there =
    let below : n < length roots = slice_get_within roots n v there in
    slice_get_read (roots ++ more) (length (roots ++ more)) n v refl (omega (arith, length-append roots more))
    (sym (get_or_append_left roots more v n below ∙ get_or_from_slice_get roots n v v there))
at-grown roots more s (Special n) v there = there
at-grown roots more s (Granule granule) v here = here

at-same : (roots : List CapValue) (s : State) (place : Place) (v w : CapValue) → IsAt roots s place v → IsAt roots s place w → v ≡ w
at-same roots s (Root n) v w one other = cc
at-same roots s (Special n) v w one other = cc
at-same roots s (Granule granule) v w one other = one.value ∙ sym other.value

module _ {X : Type 0} (value : X → CapValue) (s : State) (roots : List CapValue) where
  at-linked : (vs : List CapValue) (k : ℕ) (x : Member X) → IsLinked value roots (specials_of s.scrs) s.memory vs k x
      → IsAt roots s x.place (value x.cap)
  at-linked vs k x (in_root n place some is_it) =
      subst (λ p. IsAt roots s p (value x.cap)) (sym place) (slice_get_read roots (length roots) n (value x.cap) refl some (sym is_it))
  at-linked vs k x (in_special n place some is_it before opens) =
      subst (λ p. IsAt roots s p (value x.cap)) (sym place)
      (slice_get_read (specials_of s.scrs) (length (specials_of s.scrs)) n (value x.cap) refl some (sym is_it))
  at-linked vs k x (in_granule granule place here before opens) = subst (λ p. IsAt roots s p (value x.cap)) (sym place) here

-- ---- doors

some_door : Door
some_door = record { sealed = Root 0; key = Root 0 }

-- what doors lead to is reachable through doors
through-behind : (s : State) (doors : List Door) (behind : List CapValue) → AreDoors s doors behind → (v : CapValue) → Contains behind v
    → IsReachableThroughDoors s v
through-behind s doors behind are v there =
    let k = there.0 in
    let inside : there.0 < length behind = there.1 in
    let door = are.each k some_door v (omega (arith, are.many)) in
    subst (IsReachableThroughDoors s) (sym door.behind_is ∙ there.2) (behind_door door.sealed_reachable door.key_reachable door.opens)

-- a search over the roots of a state and what doors lead to
pub record IsSearchOf {X : Type 0} (value : X → CapValue) (s : State) (behind : List CapValue) (members : List (Member X)) : Type 0 where
  pub linked : AreLinked value (roots_of s ++ behind) (specials_of s.scrs) s.memory members
  pub sound : (v : CapValue) → Contains (values value members) v
      → IsReachedFrom (roots_of s ++ behind) (specials_of s.scrs) s.memory v
  pub complete : (v : CapValue) → IsReachedFrom (roots_of s ++ behind) (specials_of s.scrs) s.memory v
      → Contains (values value members) v

-- it is one over lists that are the state's
pub search_of : {X : Type 0} (value : X → CapValue) (s : State) (behind roots specials : List CapValue) (m : Memory)
    → roots ≡ roots_of s ++ behind → specials ≡ specials_of s.scrs → m ≡ s.memory → (members : List (Member X))
    → AreLinked value roots specials m members
    → ((v : CapValue) → Contains (values value members) v → IsReachedFrom roots specials m v)
    → ((v : CapValue) → IsReachedFrom roots specials m v → Contains (values value members) v) → IsSearchOf value s behind members
search_of value s behind roots specials m same_roots same_specials same_memory members linked sound complete =
    let there : (v : CapValue) → IsReachedFrom roots specials m v → IsReachedFrom (roots_of s ++ behind) (specials_of s.scrs) s.memory v =
    λ v reached. subst (λ n. IsReachedFrom (roots_of s ++ behind) (specials_of s.scrs) n v) same_memory
    (subst (λ x. IsReachedFrom (roots_of s ++ behind) x m v) same_specials
    (subst (λ r. IsReachedFrom r specials m v) same_roots reached)) in
    let back : (v : CapValue) → IsReachedFrom (roots_of s ++ behind) (specials_of s.scrs) s.memory v → IsReachedFrom roots specials m v =
    λ v reached. subst (λ r. IsReachedFrom r specials m v) (sym same_roots)
    (subst (λ x. IsReachedFrom (roots_of s ++ behind) x m v) (sym same_specials)
    (subst (λ n. IsReachedFrom (roots_of s ++ behind) (specials_of s.scrs) n v) (sym same_memory) reached)) in
    record {
      linked = subst (λ n. AreLinked value (roots_of s ++ behind) (specials_of s.scrs) n members) same_memory
          (subst (λ x. AreLinked value (roots_of s ++ behind) x m members) same_specials
          (subst (λ r. AreLinked value r specials m members) same_roots linked));
      sound = λ v member. there v (sound v member);
      complete = λ v reached. complete v (back v reached);
    }

-- the rounds so far: what the doors lead to are roots after those of the state
pub record IsOpenedSoFar (s : State) (roots : List CapValue) (doors : List Door) : Type 0 where
  pub behind : List CapValue
  pub roots_are : roots ≡ roots_of s ++ behind
  pub are_doors : AreDoors s doors behind
  pub on : GoesOn s (open_doors doors behind)

pub opened-none : (s : State) (n : ℕ) → n ≡ 2 ^ 64 → IsOpenedSoFar s (roots_of s) []
opened-none s n long = record {
  behind = [];
  on = GoesOn-begun s n long;
  roots_are = sym (append-nil (roots_of s));
  are_doors = record {
    many = refl;
    apart = λ j k d e below within same. absurd (omega arith);
    each = λ k door v below. absurd (omega arith);
  };
}

module _ {X : Type 0} (value : X → CapValue) (s : State) (behind : List CapValue) (members : List (Member X))
    (search : IsSearchOf value s behind members) (doors : List Door) (are : AreDoors s doors behind) where
  contains-value : (x : Member X) → Contains members x → Contains (values value members) (value x.cap)
  contains-value x there = (
    there.0,
    omega (arith, there.1, length-map members (λ (y : Member X). value y.cap)),
    get_or-map (λ (y : Member X). value y.cap) members there.0 x (value x.cap) there.1 ∙ ap (λ (y : Member X). value y.cap) there.2,
  )

  contains-member : (v : CapValue) → Contains (values value members) v → (x : Member X) × Contains members x × (value x.cap ≡ v)
  contains-member v there = in_map members there
    where
      in_map : (xs : List (Member X)) → Contains (values value xs) v → (x : Member X) × Contains xs x × (value x.cap ≡ v)
      in_map [] there = absurd (omega (arith, there.1))
      in_map (y ∷ ys) there =
          let below : there.0 < length (y ∷ ys) = omega (arith, there.1, length-map (y ∷ ys) (λ (z : Member X). value z.cap)) in (
            get_or (y ∷ ys) there.0 y,
            Contains-get_or (y ∷ ys) there.0 y below,
            sym (get_or-map (λ (z : Member X). value z.cap) (y ∷ ys) there.0 y v below) ∙ there.2,
          )

  at-member : (x : Member X) → Contains members x → IsAt (roots_of s ++ behind) s x.place (value x.cap)
  at-member x there =
      at-linked value s (roots_of s ++ behind) (values value members) there.0 x
      (subst (IsLinked value (roots_of s ++ behind) (specials_of s.scrs) s.memory (values value members) there.0) there.2
      (search.linked there.0 x there.1))

  through-value : (v : CapValue) → Contains (values value members) v → IsReachableThroughDoors s v
  through-value v there =
      through-reached s (roots_of s ++ behind)
      (λ w tagged root. elim (Contains-append_cases (roots_of s) behind w root) [
        | inl own ↦ through-root tagged (root_there s w own)
        | inr more ↦ through-behind s doors behind are w more
      ])
      v (search.sound v there)

  -- a door among the members is one of the state
  door-among : (more : List CapValue) (door : Door) (v : CapValue) → IsDoorAmong value members door v
      → IsDoor ((roots_of s ++ behind) ++ more) s door v
  door-among more door v among = record {
    sealed = value among.sealed.cap;
    key = value among.key.cap;
    sealed_at = at-grown (roots_of s ++ behind) more s door.sealed (value among.sealed.cap)
        (subst (λ p. IsAt (roots_of s ++ behind) s p (value among.sealed.cap)) (sym among.sealed_at)
        (at-member among.sealed among.sealed_in));
    key_at = at-grown (roots_of s ++ behind) more s door.key (value among.key.cap)
        (subst (λ p. IsAt (roots_of s ++ behind) s p (value among.key.cap)) (sym among.key_at) (at-member among.key among.key_in));
    sealed_reachable = through-value (value among.sealed.cap) (contains-value among.sealed among.sealed_in);
    key_reachable = through-value (value among.key.cap) (contains-value among.key among.key_in);
    opens = among.opens;
    own_key = among.own_key;
    behind_is = among.behind_is;
  }

  doors-more : (more : List Door) (new : List CapValue) → AreDoorsAmong value members more new → AreApart (doors ++ more)
      → AreDoors s (doors ++ more) (behind ++ new)
  doors-more more new among apart = record {
    many = omega (arith, are.many, among.many, length-append doors more, length-append behind new);
    apart = apart;
    each = λ k door v below. elim (cases_lt k (length doors)) [
      | inl before ↦
          let inside : k < length behind = omega (arith, are.many) in
          let same : take k (behind ++ new) ≡ take k behind = take-append-le k behind new (omega arith) in
          subst (λ vs. IsDoor (roots_of s ++ vs) s (get_or (doors ++ more) k door) (get_or (behind ++ new) k v)) (sym same)
          (subst (λ d. IsDoor (roots_of s ++ take k behind) s d (get_or (behind ++ new) k v))
          (sym (get_or_append_left doors more door k before))
          (subst (IsDoor (roots_of s ++ take k behind) s (get_or doors k door)) (sym (get_or_append_left behind new v k inside))
          (are.each k door v before)))
      | inr after ↦
          let j : ℕ = k - length doors in
          let inside : j < length more = omega (arith, length-append doors more) in
          let same : roots_of s ++ take k (behind ++ new) ≡ (roots_of s ++ behind) ++ take j new =
          ap (λ n. roots_of s ++ take n (behind ++ new)) (omega (arith, are.many))
          ∙ ap (λ vs. roots_of s ++ vs) (take-append-add behind new j)
          ∙ sym (append_assoc (roots_of s) behind (take j new)) in
          subst (λ vs. IsDoor vs s (get_or (doors ++ more) k door) (get_or (behind ++ new) k v)) (sym same)
          (subst (λ d. IsDoor ((roots_of s ++ behind) ++ take j new) s d (get_or (behind ++ new) k v))
          (sym (get_or-append_right doors more (length doors) k door refl after))
          (subst (IsDoor ((roots_of s ++ behind) ++ take j new) s (get_or more j door))
          (sym (get_or-append_right behind new (length doors) k v are.many after))
          (door-among (take j new) (get_or more j door) (get_or new j v) (among.each j door v inside))))
    ];
  }

  -- a round over the members
  module _ (roots new_roots : List CapValue) (new_doors : List Door) (are_roots : roots ≡ roots_of s ++ behind)
      (round : IsRound value members (length members) roots new_roots doors new_doors) where
    grown_roots : new_roots ≡ roots_of s ++ (behind ++ round.behind)
    grown_roots = round.roots_are ∙ ap (λ vs. vs ++ round.behind) are_roots ∙ append_assoc (roots_of s) behind round.behind

    -- it is the definitions' round, where the members are the definitions' members
    abbrev pub IsNext : Type 0
    IsNext = open_doors new_doors (behind ++ round.behind) ≡ round_of s (open_doors doors behind)

    pub next-round : seen_members value members ≡ members_behind s (open_doors doors behind)
        → open_doors new_doors new_roots ≡ round_over (seen_members value members) (seen_members value members) (open_doors doors roots)
        → IsNext
    next-round found order =
        round_of-is s behind (behind ++ round.behind) roots new_roots doors new_doors (seen_members value members) found are_roots
        grown_roots order

    pub opened-round : GoesOn s (open_doors doors behind) → IsNext → (length new_doors ≡ length doors → ⊥) → length new_doors ≤ 2 ^ 64
        → IsOpenedSoFar s new_roots new_doors
    opened-round on next fresh within = record {
      behind = behind ++ round.behind;
      on = GoesOn-more s (open_doors doors behind) (open_doors new_doors (behind ++ round.behind)) on next
          (omega (arith, fresh, ap length round.doors_are, length-append doors round.more)) within;
      roots_are = grown_roots;
      are_doors = subst (λ ds. AreDoors s ds (behind ++ round.behind)) (sym round.doors_are)
          (doors-more round.more round.behind round.among (subst AreApart round.doors_are (round.apart are.apart)));
    }

    module _ (done : length new_doors ≡ length doors) where
      same_doors : new_doors ≡ doors
      same_doors =
          round.doors_are
          ∙ ap (λ ds. doors ++ ds) (nil_from_length round.more (omega (arith, ap length round.doors_are, length-append doors round.more)))
          ∙ append-nil doors

      -- what an open door leads to is a member
      behind-open : (x : Member X) → Contains members x → IsOpen doors x.place → Contains behind (opened (value x.cap))
      behind-open x there door_there =
          let j = door_there.0 in
          let below : door_there.0 < length doors = omega (arith, door_there.1, length-map doors (λ (d : Door). d.sealed)) in
          let door = are.each j some_door (opened (value x.cap)) below in
          let place : (get_or doors j some_door).sealed ≡ x.place =
          sym (get_or-map (λ (d : Door). d.sealed) doors j some_door x.place below) ∙ door_there.2 in
          let whole : (roots_of s ++ take j behind) ++ drop j behind ≡ roots_of s ++ behind =
          append_assoc (roots_of s) (take j behind) (drop j behind) ∙ ap (λ vs. roots_of s ++ vs) (take-append-drop j behind) in
          let grown : IsAt (roots_of s ++ behind) s (get_or doors j some_door).sealed door.sealed =
          subst (λ vs. IsAt vs s (get_or doors j some_door).sealed door.sealed) whole
          (at-grown (roots_of s ++ take j behind) (drop j behind) s (get_or doors j some_door).sealed door.sealed door.sealed_at) in
          let same : door.sealed ≡ value x.cap =
          at-same (roots_of s ++ behind) s x.place door.sealed (value x.cap)
          (subst (λ p. IsAt (roots_of s ++ behind) s p door.sealed) place grown) (at-member x there) in
          (j, omega (arith, are.many), door.behind_is ∙ ap opened same)

      has-doors : HasDoors (Contains (values value members))
      has-doors c key here by opens =
          let x = contains-member c here in
          let y = contains-member key by in
          let is : get_or members x.1.0 x.0 ≡ x.0 = x.1.2 in
          let opened_by : IsOpenedBy (value x.0.cap) (value y.0.cap) =
          subst (λ v. IsOpenedBy v (value y.0.cap)) (sym x.2) (subst (IsOpenedBy c) (sym y.2) opens) in
          let door : IsOpen new_doors (get_or members x.1.0 x.0).place =
          round.open_now x.1.0 x.0 y.0 x.1.1 y.1 (subst (λ (z : Member X). IsOpenedBy (value z.cap) (value y.0.cap)) (sym is) opened_by) in
          let there : Contains behind (opened (value x.0.cap)) =
          behind-open x.0 x.1 (subst (λ (z : Member X). IsOpen doors z.place) is
          (subst (λ ds. IsOpen ds (get_or members x.1.0 x.0).place) same_doors door)) in
          let behind_c : Contains behind (opened c) = subst (λ v. Contains behind (opened v)) x.2 there in
          search.complete (opened c)
          (from_root (tagged-opened c (reached-tagged (roots_of s ++ behind) (specials_of s.scrs) s.memory c (search.sound c here)))
          (Contains-append_right (roots_of s) behind (opened c) behind_c))

      is-closed : IsClosed (Contains (values value members)) s
      is-closed = record {
        roots = λ v tagged root. search.complete v
            (from_root tagged (Contains-append_left (roots_of s) behind v (there_root s v tagged root)));
        specials = λ c v member opens tagged special. search.complete v
            (from_special (search.sound c member) opens tagged (there_special s v special));
        granules = λ c v granule member opens here. search.complete v
            (from_granule granule (search.sound c member) opens (record { tagged = here.tagged; value = here.value }));
      }

      pub doors-found : GoesOn s (open_doors doors behind) → IsNext → new_doors ≡ doors_in s
      doors-found on next =
          same_doors ∙ doors-done s (open_doors doors behind) (open_doors new_doors (behind ++ round.behind)) on next done

      pub members-found : GoesOn s (open_doors doors behind) → IsNext
          → seen_members value members ≡ members_behind s (open_doors doors behind) → seen_members value members ≡ members_through s
      members-found on next found =
          found ∙ members-done s (open_doors doors behind) (open_doors new_doors (behind ++ round.behind)) on next done

      pub exact-found : AreReachableThroughDoors s (values value members)
      exact-found = record {
        sound = through-value;
        complete = doors-least (Contains (values value members)) s is-closed has-doors;
      }

      pub linked-found : AreLinkedThroughDoors value s members new_doors
      linked-found = record {
        behind = behind;
        are_doors = subst (λ ds. AreDoors s ds behind) (sym same_doors) are;
        linked = search.linked;
      }

-- the members that a search finds, where the lists are the state's
pub found-behind : (s : State) (doors : List Door) (behind roots specials : List CapValue) (m : Memory) → roots ≡ roots_of s ++ behind
    → specials ≡ specials_of s.scrs → m ≡ s.memory → (xs : List Found) → xs ≡ members_of roots specials m
    → xs ≡ members_behind s (open_doors doors behind)
found-behind s doors behind roots specials m are_roots are_specials is_memory xs are = rw (are_roots, are_specials, is_memory) at are

-- where the members are the state's, so are their values
pub exact-through : {X : Type 0} (value : X → CapValue) (s : State) (members : List (Member X))
    → AreReachableThroughDoors s (values value members) → seen_members value members ≡ members_through s
    → AreReachableThroughDoors s (map (λ x. x.value) (members_through s))
exact-through value s members are seen =
    subst (AreReachableThroughDoors s) (sym (values_seen value members) ∙ ap (map (λ x. x.value)) seen) are
