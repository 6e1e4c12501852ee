-- A round of the search through doors: what it opens, and what is open once a door is added.
use Rattle.std.proofs.Common.{◌≡◌, ℕ, ◌+◌, ◌<◌, Bool, true, false, ◌↔◌, IsTrue, List, [], ◌∷◌, ◌++◌, length, map, get_or}
use Rattle.std.proofs.Common.{refl, sym, ap, ◌∙◌, subst, arith, inl, inr, eqb, cond}
use Rattle.std.proofs.lemmas.Bool.{false≢true, cases_eq, cases_lt}
use Rattle.std.proofs.lemmas.List.{append_assoc, append-nil, get_or-map, length-map, length-append, map-append, get_or_append_left}
use Rattle.std.proofs.lemmas.List.{get_or_default}
use Rattle.std.proofs.lemmas.List.Elements.{Contains-append_left, Contains-push}
use Rattle.std.proofs.Math.Seq.{get_or-append_seam}
use Rattle.std.specs.Bool.{MatchBool}
use Rattle.std.specs.List.{HoldsAt, AllWithin, Contains}
use Rattle.base.specs.ObjectType.{sentry_type, unsealed_type}
use Rattle.cap_bounds.specs.CapValue.{CapValue, is_sealed, value_otype}
use Rattle.cap_rights.specs.Opened.{opened}
use Rattle.reached.specs.declared.member.Member.{Member}
use Rattle.reached.specs.declared.member.Place.{Place}
use Rattle.doors.specs.declared.through.Door.{Door}
use Rattle.doors.specs.Closed.{IsOpenedBy, entry, as_code, as_data, own_seal}
use Rattle.doors.specs.PairLaws.{pair-invocable}
use Rattle.doors.specs.Through.{AreApart}

-- ---- words

-- one of the doors is at this place
abbrev pub IsOpen : List Door → Place → Type 0
IsOpen doors place = Contains (map (λ door. door.sealed) doors) place

-- a door among members: one of them, and one that opens it
pub record IsDoorAmong {X : Type 0} (value : X → CapValue) (members : List (Member X)) (door : Door) (behind : CapValue) : Type 0 where
  pub sealed : Member X
  pub key : Member X
  pub sealed_in : Contains members sealed
  pub key_in : Contains members key
  pub sealed_at : door.sealed ≡ sealed.place
  pub key_at : door.key ≡ key.place
  pub opens : IsOpenedBy (value sealed.cap) (value key.cap)
  pub own_key : value_otype (value sealed.cap) ≡ sentry_type → door.key ≡ door.sealed
  pub behind_is : behind ≡ opened (value sealed.cap)

-- doors among members, each with the value that it leads to
pub record AreDoorsAmong {X : Type 0} (value : X → CapValue) (members : List (Member X)) (doors : List Door) (behind : List CapValue)
    : Type 0 where
  pub many : length behind ≡ length doors
  pub each : (k : ℕ) (door : Door) (v : CapValue) → k < length doors
      → IsDoorAmong value members (get_or doors k door) (get_or behind k v)

-- A round through the first `count` of the members: to the doors it adds doors among them, and to the roots what these lead to. Of the
-- first `count` each that a member opens has its door, and no place has two.
pub record IsRound {X : Type 0} (value : X → CapValue) (members : List (Member X)) (count : ℕ) (roots new_roots : List CapValue)
    (doors new_doors : List Door) : Type 0 where
  pub more : List Door
  pub behind : List CapValue
  pub roots_are : new_roots ≡ roots ++ behind
  pub doors_are : new_doors ≡ doors ++ more
  pub among : AreDoorsAmong value members more behind
  pub apart : AreApart doors → AreApart new_doors
  pub open_now : (k : ℕ) (d key : Member X) → k < count → Contains members key
      → IsOpenedBy (value (get_or members k d).cap) (value key.cap) → IsOpen new_doors (get_or members k d).place

-- ---- what is open

-- only what is sealed is opened
pub opened-sealed : (c key : CapValue) → IsOpenedBy c key → is_sealed c ≡ true
opened-sealed c key (entry sentry) = ap (λ o. cond (eqb o unsealed_type) false true) sentry
opened-sealed c key (as_code pair) = (pair-invocable c key pair).first.sealed
opened-sealed c key (as_data pair) = (pair-invocable key c pair).second.sealed
opened-sealed c key (own_seal sealed invokes opens) = sealed

-- a place is open where one of the doors is at it
pub open-found : (r : Bool) (doors : List Door) (place : Place)
    → MatchBool r ((k : ℕ) × (k < length doors) × HoldsAt (λ (door : Door). door.sealed ≡ place) doors k)
    (AllWithin (λ (door : Door). door.sealed ≡ place → ⊥) doors 0 (length doors))
    → IsTrue r ↔ IsOpen doors place
open-found true doors place found =
    let any : Door = record { sealed = place; key = place } in (
      λ _. (
        found.0,
        omega (arith, found.1, length-map doors (λ (door : Door). door.sealed)),
        get_or-map (λ (door : Door). door.sealed) doors found.0 any place found.1 ∙ found.2 any,
      ),
      λ _. refl,
    )
open-found false doors place none = (
  λ yes. absurd (false≢true yes),
  λ there.
      let below : there.0 < length doors = omega (arith, there.1, length-map doors (λ (door : Door). door.sealed)) in
      let any : Door = record { sealed = place; key = place } in
      absurd
      (none there.0 any (omega arith) below (sym (get_or-map (λ (door : Door). door.sealed) doors there.0 any place below) ∙ there.2)),
)

kept_open : (doors : List Door) (door : Door) (place : Place) → IsOpen doors place → IsOpen (doors ++ door ∷ []) place
kept_open doors door place is =
    subst (λ places. Contains places place) (sym (map-append (λ (d : Door). d.sealed) doors (door ∷ [])))
    (Contains-append_left (map (λ (d : Door). d.sealed) doors) (door.sealed ∷ []) place is)

now_open : (doors : List Door) (door : Door) (place : Place) → door.sealed ≡ place → IsOpen (doors ++ door ∷ []) place
now_open doors door place at =
    subst (λ places. Contains places place) (sym (map-append (λ (d : Door). d.sealed) doors (door ∷ [])))
    (subst (λ p. Contains (map (λ (d : Door). d.sealed) doors ++ p ∷ []) place) (sym at)
    (Contains-push (map (λ (d : Door). d.sealed) doors) place))

-- the last of a list with one more
at_seam : {Y : Type 0} (ys : List Y) (y d : Y) (k : ℕ) → k ≡ length ys → get_or (ys ++ y ∷ []) k d ≡ y
at_seam ys y d k last = ap (λ n. get_or (ys ++ y ∷ []) n d) last ∙ get_or-append_seam ys y [] d

apart-more : (doors : List Door) (door : Door) → AreApart doors → (IsOpen doors door.sealed → ⊥) → AreApart (doors ++ door ∷ [])
apart-more doors door apart fresh j k d e below within same =
    let first : j < length doors = omega (arith, length-append doors (door ∷ [])) in
    let here : (get_or doors j d).sealed ≡ (get_or (doors ++ door ∷ []) k e).sealed =
    sym (ap (λ (x : Door). x.sealed) (get_or_append_left doors (door ∷ []) d j first)) ∙ same in
    elim (cases_lt k (length doors)) [
      | inl before ↦ apart j k d e below before (here ∙ ap (λ (x : Door). x.sealed) (get_or_append_left doors (door ∷ []) e k before))
      | inr after ↦
          let last : k ≡ length doors = omega (arith, length-append doors (door ∷ [])) in
          fresh (
            j,
            omega (arith, length-map doors (λ (x : Door). x.sealed)),
            get_or-map (λ (x : Door). x.sealed) doors j d door.sealed first ∙ here
                ∙ ap (λ (x : Door). x.sealed) (at_seam doors door e k last),
          )
    ]

module _ {X : Type 0} (value : X → CapValue) (members : List (Member X)) where
  -- ---- doors among members

  among-none : AreDoorsAmong value members [] []
  among-none = record { many = refl; each = λ k door v below. absurd (omega arith) }

  among-more : (doors : List Door) (behind : List CapValue) (door : Door) (v : CapValue) → AreDoorsAmong value members doors behind
      → IsDoorAmong value members door v → AreDoorsAmong value members (doors ++ door ∷ []) (behind ++ v ∷ [])
  among-more doors behind door v among new = record {
    many = omega (arith, among.many, length-append doors (door ∷ []), length-append behind (v ∷ []));
    each = λ k d w below. elim (cases_lt k (length doors)) [
      | inl before ↦
          let inside : k < length behind = omega (arith, among.many) in
          subst (λ y. IsDoorAmong value members y (get_or (behind ++ v ∷ []) k w)) (sym (get_or_append_left doors (door ∷ []) d k before))
          (subst (λ y. IsDoorAmong value members (get_or doors k d) y) (sym (get_or_append_left behind (v ∷ []) w k inside))
          (among.each k d w before))
      | inr after ↦
          let last : k ≡ length doors = omega (arith, length-append doors (door ∷ [])) in
          let last_behind : k ≡ length behind = omega (arith, among.many) in
          subst (λ y. IsDoorAmong value members y (get_or (behind ++ v ∷ []) k w)) (sym (at_seam doors door d k last))
          (subst (λ y. IsDoorAmong value members door y) (sym (at_seam behind v w k last_behind)) new)
    ];
  }

  -- ---- rounds

  pub round-none : (roots : List CapValue) (doors : List Door) → IsRound value members 0 roots roots doors doors
  round-none roots doors = record {
    more = [];
    behind = [];
    roots_are = sym (append-nil roots);
    doors_are = sym (append-nil doors);
    among = among-none;
    apart = λ before. before;
    open_now = λ k d key below there opens. absurd (omega arith);
  }

  module _ (i : ℕ) (x : Member X) (below : i < length members) (read : x ≡ get_or members i x) (roots new_roots : List CapValue)
      (doors new_doors : List Door) (round : IsRound value members i roots new_roots doors new_doors) where
    at : (k : ℕ) (d : Member X) → k ≡ i → get_or members k d ≡ x
    at k d same = ap (λ n. get_or members n d) same ∙ get_or_default members i d x below ∙ sym read

    -- a member that none opens, or whose door is open
    pub round-passed : ((key : Member X) → Contains members key → IsOpenedBy (value x.cap) (value key.cap) → IsOpen new_doors x.place)
        → IsRound value members (i + 1) roots new_roots doors new_doors
    round-passed is = record {
      more = round.more;
      behind = round.behind;
      roots_are = round.roots_are;
      doors_are = round.doors_are;
      among = round.among;
      apart = round.apart;
      open_now = λ k d key within there opens. elim (cases_eq k i) [
        | inl same ↦
            subst (λ (y : Member X). IsOpen new_doors y.place) (sym (at k d same))
            (is key there (subst (λ (y : Member X). IsOpenedBy (value y.cap) (value key.cap)) (at k d same) opens))
        | inr other ↦ round.open_now k d key (omega (arith, other)) there opens
      ];
    }

    -- a member whose door is added
    pub round-opened : (door : Door) (v : CapValue) → IsDoorAmong value members door v → door.sealed ≡ x.place
        → (more_roots : List CapValue) → more_roots ≡ new_roots ++ v ∷ [] → (more_doors : List Door) → more_doors ≡ new_doors ++ door ∷ []
        → (IsOpen new_doors x.place → ⊥) → IsRound value members (i + 1) roots more_roots doors more_doors
    round-opened door v new place more_roots roots_grown more_doors doors_grown fresh = record {
      more = round.more ++ door ∷ [];
      behind = round.behind ++ v ∷ [];
      roots_are = roots_grown ∙ ap (λ vs. vs ++ v ∷ []) round.roots_are ∙ append_assoc roots round.behind (v ∷ []);
      doors_are = doors_grown ∙ ap (λ ds. ds ++ door ∷ []) round.doors_are ∙ append_assoc doors round.more (door ∷ []);
      among = among-more round.more round.behind door v round.among new;
      apart = λ before. subst AreApart (sym doors_grown)
          (apart-more new_doors door (round.apart before) (subst (λ p. IsOpen new_doors p → ⊥) (sym place) fresh));
      open_now = λ k d key within there opens.
          let place_at = (get_or members k d).place in
          subst (λ ds. IsOpen ds place_at) (sym doors_grown) (elim (cases_eq k i) [
            | inl same ↦ now_open new_doors door place_at (place ∙ sym (ap (λ (y : Member X). y.place) (at k d same)))
            | inr other ↦ kept_open new_doors door place_at (round.open_now k d key (omega (arith, other)) there opens)
          ]);
    }

-- the values of a list with one more
pub map-pushed : {X Y : Type 0} (f : X → Y) (xs ns : List X) (x : X) (y : Y) → ns ≡ xs ++ x ∷ [] → f x ≡ y
    → map f ns ≡ map f xs ++ y ∷ []
map-pushed f xs ns x y grown is = ap (map f) grown ∙ map-append f xs (x ∷ []) ∙ ap (λ z. map f xs ++ z ∷ []) is
