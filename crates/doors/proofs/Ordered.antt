-- What is found through doors, as the definitions say it: the truth values of what opens and what is open, keys, doors and rounds.
use Rattle.std.proofs.Common.{◌≡◌, ℕ, zero, suc, pred, ◌+◌, ◌^◌, ◌<◌, ◌≤◌, Bool, true, false, cond, not, ◌&&◌, ◌||◌, eqb, ltb, leb, ◌↔◌}
use Rattle.std.proofs.Common.{IsTrue, List, [], ◌∷◌, ◌++◌, length, map, get_or, drop, Option, None, Some, refl, sym, ap, ◌∙◌, subst, arith}
use Rattle.std.proofs.Common.{inl, inr}
use Rattle.std.proofs.lemmas.Bool.{and_parts, and_from, or_cases, or_parts, or_left, or_right, not-true, not_from_false, eqb-true}
use Rattle.std.proofs.lemmas.Bool.{eq-eqb, le-leb, leb-true, lt-ltb, ltb-true, false≢true, ne_eqb}
use Rattle.std.proofs.lemmas.List.{drop_more, drop_all, append_assoc, append_cancel_left}
use Rattle.std.specs.Cmp.Derive.{one_truth}
use Rattle.std.specs.Prelude.{is_none, option_map}
use Rattle.std.specs.List.{Contains}
use Rattle.base.specs.ObjectType.{sentry_type}
use Rattle.cap_bounds.specs.CapValue.{CapValue, is_sealed, value_base, value_top, value_otype}
use Rattle.cap_rights.specs.Opened.{opened}
use Rattle.cap_rights.specs.Permission.{permits}
use Rattle.cap_rights.specs.declared.permission.Permission.TheVariants.{CInvoke, Seal}
use Rattle.cap_rights.specs.Rights.{OpensType}
use Rattle.cap_checks.specs.FirstFault.{invoke_fault}
use Rattle.steps.specs.State.{State}
use Rattle.reached.specs.declared.member.Member.{Member}
use Rattle.reached.specs.declared.member.Place.{Place}
use Rattle.reached.specs.declared.member.Place.TheVariants.{Root, Special, Granule}
use Rattle.reached.specs.Links.{values}
use Rattle.reached.specs.Order.{Found, is_same_place, seen_member, seen_members}
use Rattle.doors.specs.declared.through.Door.{Door}
use Rattle.doors.specs.Closed.{IsPair, IsOpenedBy, entry, as_code, as_data, own_seal}
use Rattle.doors.specs.Roots.{roots_of}
use Rattle.doors.specs.ThroughOrder.{accepts, seals, opens, key_of, door_to, door_of, OpenDoors, open_doors, is_open_at, with_door}
use Rattle.doors.specs.ThroughOrder.{opened_at, none_open, round, members_behind, round_of, rounds, doors_in, members_through}
use Rattle.doors.proofs.Invoking.{pair-accepted, accepted-pair}
use Rattle.doors.proofs.Rounds.{IsOpen, opened-sealed, IsDoorAmong, IsRound, round-none, round-passed, round-opened}

-- ---- which key opens a sealed value

none_is : {A : Type 0} (o : Option A) → is_none o ≡ true → o ≡ None
none_is None met = refl
none_is (Some x) met = cc

accepts-pair : (code datum : CapValue) → accepts code datum ≡ true → IsPair code datum
accepts-pair code datum met = accepted-pair code datum (none_is (invoke_fault code 0 datum 0) met)

pair-accepts : (code datum : CapValue) → IsPair code datum → accepts code datum ≡ true
pair-accepts code datum pair = ap is_none (pair-accepted code datum pair)

seals-type : (c : CapValue) (otype : ℕ) → seals c otype ≡ true → OpensType c otype
seals-type c otype met =
    let within = leb (value_base c) otype && ltb otype (value_top c) in
    let first = and_parts (not (is_sealed c)) (permits c Seal && within) met in
    let second = and_parts (permits c Seal) within first.1 in
    let both = and_parts (leb (value_base c) otype) (ltb otype (value_top c)) second.1 in
    record {
      unsealed = not-true (is_sealed c) first.0;
      seals = second.0;
      base = leb-true (value_base c) otype both.0;
      top = ltb-true otype (value_top c) both.1;
    }

type-seals : (c : CapValue) (otype : ℕ) → OpensType c otype → seals c otype ≡ true
type-seals c otype opens =
    let within = leb (value_base c) otype && ltb otype (value_top c) in
    and_from (not (is_sealed c)) (permits c Seal && within) (not_from_false (is_sealed c) opens.unsealed)
    (and_from (permits c Seal) within opens.seals
    (and_from (leb (value_base c) otype) (ltb otype (value_top c)) (le-leb (value_base c) otype opens.base)
    (lt-ltb otype (value_top c) opens.top)))

module _ (c key : CapValue) where
  abbrev pub own : Bool
  own = is_sealed c && (permits c CInvoke && seals key (value_otype c))

  truth-opens : opens c key ≡ true → IsOpenedBy c key
  unfolding opens
  truth-opens met = elim (or_cases (eqb (value_otype c) sentry_type) (accepts c key || (accepts key c || own)) met) [
    | inl sentry ↦ entry (eqb-true (value_otype c) sentry_type sentry)
    | inr other ↦ elim (or_cases (accepts c key) (accepts key c || own) other) [
      | inl code ↦ as_code (accepts-pair c key code)
      | inr last ↦ elim (or_cases (accepts key c) own last) [
        | inl datum ↦ as_data (accepts-pair key c datum)
        | inr seal ↦
            let first = and_parts (is_sealed c) (permits c CInvoke && seals key (value_otype c)) seal in
            let second = and_parts (permits c CInvoke) (seals key (value_otype c)) first.1 in
            own_seal first.0 second.0 (seals-type key (value_otype c) second.1)
      ]
    ]
  ]

  opens-truth : IsOpenedBy c key → opens c key ≡ true
  unfolding opens
  opens-truth (entry sentry) =
      or_left (eqb (value_otype c) sentry_type) (accepts c key || (accepts key c || own)) (eq-eqb (value_otype c) sentry_type sentry)
  opens-truth (as_code pair) =
      or_right (eqb (value_otype c) sentry_type) (accepts c key || (accepts key c || own))
      (or_left (accepts c key) (accepts key c || own) (pair-accepts c key pair))
  opens-truth (as_data pair) =
      or_right (eqb (value_otype c) sentry_type) (accepts c key || (accepts key c || own))
      (or_right (accepts c key) (accepts key c || own) (or_left (accepts key c) own (pair-accepts key c pair)))
  opens-truth (own_seal sealed invokes type) =
      or_right (eqb (value_otype c) sentry_type) (accepts c key || (accepts key c || own))
      (or_right (accepts c key) (accepts key c || own)
      (or_right (accepts key c) own
      (and_from (is_sealed c) (permits c CInvoke && seals key (value_otype c)) sealed
      (and_from (permits c CInvoke) (seals key (value_otype c)) invokes (type-seals key (value_otype c) type)))))

  -- what says whether a key opens a value is its truth value
  pub opens-is : (r : Bool) → IsTrue r ↔ IsOpenedBy c key → r ≡ opens c key
  opens-is r says = one_truth r (opens c key) (λ met. opens-truth (says.0 met)) (λ met. says.1 (truth-opens met))

-- ---- which places are open

same_place : (p q : Place) → is_same_place p q ≡ true → p ≡ q
same_place (Root n) (Root k) met = ap Root (eqb-true n k met)
same_place (Root n) (Special k) met = cc
same_place (Root n) (Granule b) met = cc
same_place (Special n) (Root k) met = cc
same_place (Special n) (Special k) met = ap Special (eqb-true n k met)
same_place (Special n) (Granule b) met = cc
same_place (Granule a) (Root k) met = cc
same_place (Granule a) (Special k) met = cc
same_place (Granule a) (Granule b) met = ap Granule (eqb-true a b met)

place_same : (p : Place) → is_same_place p p ≡ true
place_same (Root n) = eq-eqb n n refl
place_same (Special n) = eq-eqb n n refl
place_same (Granule a) = eq-eqb a a refl

open-truth : (doors : List Door) (place : Place) → IsOpen doors place → is_open_at doors place ≡ true
open-truth doors place there = at doors there.0 there.1 there.2
  where
    at : (doors : List Door) (k : ℕ) → k < length (map (λ (d : Door). d.sealed) doors)
        → get_or (map (λ (d : Door). d.sealed) doors) k place ≡ place → is_open_at doors place ≡ true
    at [] k below same = absurd (omega (arith, below))
    at (door ∷ doors) zero below same =
        or_left (is_same_place door.sealed place) (is_open_at doors place)
        (subst (λ p. is_same_place p place ≡ true) (sym same) (place_same place))
    at (door ∷ doors) (suc k) below same =
        or_right (is_same_place door.sealed place) (is_open_at doors place) (at doors k (omega (arith, below)) same)

truth-open : (doors : List Door) (place : Place) → is_open_at doors place ≡ true → IsOpen doors place
truth-open [] place met = absurd (false≢true met)
truth-open (door ∷ doors) place met = elim (or_cases (is_same_place door.sealed place) (is_open_at doors place) met) [
  | inl same ↦ (0, omega arith, same_place door.sealed place same)
  | inr later ↦
      let there = truth-open doors place later in
      (suc there.0, omega (arith, there.1), there.2)
]

pub open-is : (r : Bool) (doors : List Door) (place : Place) → IsTrue r ↔ IsOpen doors place → r ≡ is_open_at doors place
open-is r doors place says =
    one_truth r (is_open_at doors place) (λ met. open-truth doors place (says.0 met)) (λ met. says.1 (truth-open doors place met))

-- ---- keys and rounds, member by member

module _ {X : Type 0} (value : X → CapValue) (members : List (Member X)) where
  -- those from a number on, as they are seen
  abbrev pub seen_from : ℕ → List Found
  seen_from i = seen_members value (drop i members)

  seen-more : (i : ℕ) (x : Member X) → i < length members → x ≡ get_or members i x
      → seen_from i ≡ seen_member value x ∷ seen_from (i + 1)
  seen-more i x below read =
      ap (seen_members value) (drop_more members i x below ∙ ap (λ y. y ∷ drop (i + 1) members) (sym read))

  module _ (c : CapValue) (i : ℕ) (x : Member X) (below : i < length members) (read : x ≡ get_or members i x) where
    pub key-passed : opens c (value x.cap) ≡ false → key_of (seen_from i) c ≡ key_of (seen_from (i + 1)) c
    key-passed fails =
        ap (λ xs. key_of xs c) (seen-more i x below read)
        ∙ ap (λ b. cond b (Some (seen_member value x)) (key_of (seen_from (i + 1)) c)) fails

    pub key-found : opens c (value x.cap) ≡ true → key_of (seen_from i) c ≡ Some (seen_member value x)
    key-found opens =
        ap (λ xs. key_of xs c) (seen-more i x below read)
        ∙ ap (λ b. cond b (Some (seen_member value x)) (key_of (seen_from (i + 1)) c)) opens

-- ---- the door at a member

module _ (xs : List Found) (x : Found) where
  pub door-own : opens x.value x.value ≡ true → Some (door_to x.place x.place) ≡ door_of xs x
  door-own own =
      sym (ap (λ b. cond b (Some (door_to x.place x.place)) (option_map (λ key. door_to x.place key.place) (key_of xs x.value))) own)

  pub door-other : opens x.value x.value ≡ false → (key : Option Found) → key_of xs x.value ≡ key
      → option_map (λ key. door_to x.place key.place) key ≡ door_of xs x
  door-other other key is =
      sym (ap (λ b. cond b (Some (door_to x.place x.place)) (option_map (λ key. door_to x.place key.place) (key_of xs x.value))) other
      ∙ ap (option_map (λ key. door_to x.place key.place)) is)

-- ---- rounds

module _ (xs : List Found) (x : Found) (o : OpenDoors) where
  abbrev pub IsPassed : Bool → Type 0
  IsPassed passed = (not (is_sealed x.value) || is_open_at o.doors x.place) ≡ passed

  pub passed-unsealed : is_sealed x.value ≡ false → IsPassed true
  passed-unsealed unsealed =
      or_left (not (is_sealed x.value)) (is_open_at o.doors x.place) (not_from_false (is_sealed x.value) unsealed)

  pub passed-open : is_open_at o.doors x.place ≡ true → IsPassed true
  passed-open is = or_right (not (is_sealed x.value)) (is_open_at o.doors x.place) is

  pub passed-neither : is_sealed x.value ≡ true → is_open_at o.doors x.place ≡ false → IsPassed false
  passed-neither sealed shut = ap (λ b. not b || is_open_at o.doors x.place) sealed ∙ shut

  pub opened-passed : IsPassed true → opened_at xs x o ≡ o
  opened-passed passed = ap (λ b. cond b o (with_door x o (door_of xs x))) passed

  pub opened-door : IsPassed false → (door : Option Door) → door ≡ door_of xs x → opened_at xs x o ≡ with_door x o door
  opened-door fresh door is =
      ap (λ b. cond b o (with_door x o (door_of xs x))) fresh ∙ ap (with_door x o) (sym is)

-- with a door more
pub grown-door : (doors new_doors : List Door) (door : Door) (behind new_behind : List CapValue) (v : CapValue)
    → new_doors ≡ doors ++ door ∷ [] → new_behind ≡ behind ++ v ∷ []
    → open_doors (doors ++ door ∷ []) (behind ++ v ∷ []) ≡ open_doors new_doors new_behind
grown-door doors new_doors door behind new_behind v doors_grown behind_grown =
    ap (open_doors (doors ++ door ∷ [])) (sym behind_grown) ∙ ap (λ ds. open_doors ds new_behind) (sym doors_grown)

module _ {X : Type 0} (value : X → CapValue) (members : List (Member X)) where
  -- what is open once the first of the members are looked through, and what a whole round then opens
  abbrev pub IsRoundTo : ℕ → OpenDoors → OpenDoors → Type 0
  IsRoundTo i before now =
      round (seen_members value members) (seen_members value members) before
      ≡ round (seen_members value members) (seen_from value members i) now

  pub round_to-more : (i : ℕ) (x : Member X) → i < length members → x ≡ get_or members i x → (before now new : OpenDoors)
      → opened_at (seen_members value members) (seen_member value x) now ≡ new → IsRoundTo i before now → IsRoundTo (i + 1) before new
  round_to-more i x below read before now new is so_far =
      let xs = seen_members value members in
      so_far ∙ ap (λ ys. round xs ys now) (seen-more value members i x below read)
      ∙ ap (λ o. round xs (seen_from value members (i + 1)) o) is

  pub round_to-all : (i : ℕ) → length members ≤ i → (before now : OpenDoors) → IsRoundTo i before now
      → now ≡ round (seen_members value members) (seen_members value members) before
  round_to-all i past before now so_far =
      sym (so_far ∙ ap (λ ys. round (seen_members value members) (seen_members value ys) now) (drop_all i members past))

-- ---- what a round opens

-- the key of a value: a member that opens it
record IsKey {X : Type 0} (value : X → CapValue) (members : List (Member X)) (c : CapValue) (k : Found) : Type 0 where
  key : Member X
  there : Contains members key
  opens : IsOpenedBy c (value key.cap)
  seen : seen_member value key ≡ k

module _ {X : Type 0} (value : X → CapValue) (c : CapValue) where
  no-key : (key : Member X) → IsOpenedBy c (value key.cap) → (ms : List (Member X)) (k : ℕ) → k < length ms → get_or ms k key ≡ key
      → key_of (seen_members value ms) c ≡ None → ⊥
  no-key key by [] k below same none = absurd (omega (arith, below))
  no-key key by (m ∷ ms) zero below same none =
      let met : opens c (value m.cap) ≡ true =
      subst (λ (y : Member X). opens c (value y.cap) ≡ true) (sym same) (opens-truth c (value key.cap) by) in
      let never : Some (seen_member value m) ≡ None =
      sym (ap (λ b. cond b (Some (seen_member value m)) (key_of (seen_members value ms) c)) met) ∙ none in
      cc
  no-key key by (m ∷ ms) (suc k) below same none =
      no-key key by ms k (omega (arith, below)) same (later (opens c (value m.cap)) none)
    where
      later : (b : Bool) → cond b (Some (seen_member value m)) (key_of (seen_members value ms) c) ≡ None
          → key_of (seen_members value ms) c ≡ None
      later true never = cc
      later false none = none

  key-there : (ms : List (Member X)) (k : Found) → key_of (seen_members value ms) c ≡ Some k → IsKey value ms c k
  key-there [] k is = cc
  key-there (m ∷ ms) k is = at (λ later. key-there ms k later) (opens c (value m.cap)) refl is
    where
      at : (key_of (seen_members value ms) c ≡ Some k → IsKey value ms c k) → (b : Bool) → opens c (value m.cap) ≡ b
          → cond b (Some (seen_member value m)) (key_of (seen_members value ms) c) ≡ Some k → IsKey value (m ∷ ms) c k
      at later true met same = record {
        key = m;
        there = (0, omega arith, refl);
        opens = truth-opens c (value m.cap) met;
        seen = cc;
      }
      at later false fails same =
          let is = later same in
          record {
            key = is.key;
            there = (suc is.there.0, omega (arith, is.there.1), is.there.2);
            opens = is.opens;
            seen = is.seen;
          }

module _ {X : Type 0} (value : X → CapValue) (members : List (Member X)) where
  module _ (x : Member X) where
    no-door : door_of (seen_members value members) (seen_member value x) ≡ None → (key : Member X) → Contains members key
        → IsOpenedBy (value x.cap) (value key.cap) → ⊥
    no-door none key there by =
        at (opens (value x.cap) (value x.cap)) (key_of (seen_members value members) (value x.cap)) refl none
      where
        at : (b : Bool) (k : Option Found) → key_of (seen_members value members) (value x.cap) ≡ k
            → cond b (Some (door_to x.place x.place)) (option_map (λ key. door_to x.place key.place) k) ≡ None → ⊥
        at true k is same = cc
        at false None is same = no-key value (value x.cap) key by members there.0 there.1 there.2 is
        at false (Some k) is same = cc

    door-there : Contains members x → (door : Door) → door_of (seen_members value members) (seen_member value x) ≡ Some door
        → IsDoorAmong value members door (opened (value x.cap)) × (door.sealed ≡ x.place)
    door-there here door is =
        at (opens (value x.cap) (value x.cap)) refl (key_of (seen_members value members) (value x.cap)) refl is
      where
        at : (b : Bool) → opens (value x.cap) (value x.cap) ≡ b → (k : Option Found)
            → key_of (seen_members value members) (value x.cap) ≡ k
            → cond b (Some (door_to x.place x.place)) (option_map (λ key. door_to x.place key.place) k) ≡ Some door
            → IsDoorAmong value members door (opened (value x.cap)) × (door.sealed ≡ x.place)
        at true own k found same =
            let is : door_to x.place x.place ≡ door = cc in
            subst (λ (d : Door). IsDoorAmong value members d (opened (value x.cap)) × (d.sealed ≡ x.place)) is (
              record {
                sealed = x;
                key = x;
                sealed_in = here;
                key_in = here;
                sealed_at = refl;
                key_at = refl;
                opens = truth-opens (value x.cap) (value x.cap) own;
                own_key = λ _. refl;
                behind_is = refl;
              },
              refl,
            )
        at false other None found same = cc
        at false other (Some k) found same =
            let is : door_to x.place k.place ≡ door = cc in
            let key = key-there value (value x.cap) members k found in
            subst (λ (d : Door). IsDoorAmong value members d (opened (value x.cap)) × (d.sealed ≡ x.place)) is (
              record {
                sealed = x;
                key = key.key;
                sealed_in = here;
                key_in = key.there;
                sealed_at = refl;
                key_at = ap (λ (y : Found). y.place) (sym key.seen);
                opens = key.opens;
                own_key = λ sentry. absurd (false≢true (sym other ∙ opens-truth (value x.cap) (value x.cap) (entry sentry)));
                behind_is = refl;
              },
              refl,
            )

  module _ (roots : List CapValue) (doors : List Door) where
    round-more : (i : ℕ) (x : Member X) → i < length members → x ≡ get_or members i x → (now : OpenDoors)
        → IsRound value members i roots now.behind doors now.doors
        → IsRound value members (i + 1) roots (opened_at (seen_members value members) (seen_member value x) now).behind doors
        (opened_at (seen_members value members) (seen_member value x) now).doors
    round-more i x below read now so_far =
        at (not (is_sealed (value x.cap)) || is_open_at now.doors x.place) refl
        (door_of (seen_members value members) (seen_member value x)) refl
      where
        at : (b : Bool) → (not (is_sealed (value x.cap)) || is_open_at now.doors x.place) ≡ b → (door : Option Door)
            → door_of (seen_members value members) (seen_member value x) ≡ door
            → IsRound value members (i + 1) roots (cond b now (with_door (seen_member value x) now door)).behind doors
            (cond b now (with_door (seen_member value x) now door)).doors
        at true passed door is =
            round-passed value members i x below read roots now.behind doors now.doors so_far
            (λ key there by. elim (or_cases (not (is_sealed (value x.cap))) (is_open_at now.doors x.place) passed) [
              | inl unsealed ↦ absurd (false≢true (sym (not-true (is_sealed (value x.cap)) unsealed)
                  ∙ opened-sealed (value x.cap) (value key.cap) by))
              | inr is ↦ truth-open now.doors x.place is
            ])
        at false fresh None is =
            round-passed value members i x below read roots now.behind doors now.doors so_far
            (λ key there by. absurd (no-door x is key there by))
        at false fresh (Some door) is =
            let there = door-there x (i, below, sym read) door is in
            round-opened value members i x below read roots now.behind doors now.doors so_far door (opened (value x.cap)) there.0 there.1
            (now.behind ++ opened (value x.cap) ∷ []) refl (now.doors ++ door ∷ []) refl
            (λ is. false≢true (sym (or_parts (not (is_sealed (value x.cap))) (is_open_at now.doors x.place) fresh).1
            ∙ open-truth now.doors x.place is))

    round-rest : (ms : List (Member X)) (i : ℕ) → ms ≡ drop i members → i + length ms ≡ length members → (now : OpenDoors)
        → IsRound value members i roots now.behind doors now.doors
        → IsRound value members (length members) roots (round (seen_members value members) (seen_members value ms) now).behind doors
        (round (seen_members value members) (seen_members value ms) now).doors
    round-rest [] i is long now so_far =
        let all : i ≡ length members = omega (arith, long) in
        subst (λ n. IsRound value members n roots now.behind doors now.doors) all so_far
    round-rest (x ∷ ms) i is long now so_far =
        let below : i < length members = omega (arith, long) in
        let both : x ∷ ms ≡ get_or members i x ∷ drop (i + 1) members = is ∙ drop_more members i x below in
        let first : x ≡ get_or members i x = cc in
        let rest : ms ≡ drop (i + 1) members = cc in
        round-rest ms (i + 1) rest (omega (arith, long)) (opened_at (seen_members value members) (seen_member value x) now)
        (round-more i x below first now so_far)

    -- the definitions' round adds doors among the members, and opens what a member opens
    pub round-is : IsRound value members (length members) roots
        (round (seen_members value members) (seen_members value members) (open_doors doors roots)).behind doors
        (round (seen_members value members) (seen_members value members) (open_doors doors roots)).doors
    round-is = round-rest members 0 refl (omega arith) (open_doors doors roots) (round-none value members roots doors)

-- ---- roots before what the doors lead to

module _ (roots : List CapValue) where
  abbrev pub after_roots : OpenDoors → OpenDoors
  after_roots o = open_doors o.doors (roots ++ o.behind)

  with_door-after : (x : Found) (o : OpenDoors) (door : Option Door) → with_door x (after_roots o) door ≡ after_roots (with_door x o door)
  with_door-after x o None = refl
  with_door-after x o (Some door) = ap (open_doors (o.doors ++ door ∷ [])) (append_assoc roots o.behind (opened x.value ∷ []))

  opened-after : (xs : List Found) (x : Found) (o : OpenDoors) → opened_at xs x (after_roots o) ≡ after_roots (opened_at xs x o)
  opened-after xs x o = elim (not (is_sealed x.value) || is_open_at o.doors x.place)
      as (λ b. cond b (after_roots o) (with_door x (after_roots o) (door_of xs x))
      ≡ after_roots (cond b o (with_door x o (door_of xs x)))) [
        | true ↦ refl
        | false ↦ with_door-after x o (door_of xs x)
      ]

  round-after : (xs ys : List Found) (o : OpenDoors) → round xs ys (after_roots o) ≡ after_roots (round xs ys o)
  round-after xs [] o = refl
  round-after xs (y ∷ ys) o = ap (round xs ys) (opened-after xs y o) ∙ round-after xs ys (opened_at xs y o)

  after_roots-same : (o p : OpenDoors) → after_roots o ≡ after_roots p → o ≡ p
  after_roots-same o p same =
      ap (λ doors. open_doors doors o.behind) (ap (λ (x : OpenDoors). x.doors) same)
      ∙ ap (open_doors p.doors) (append_cancel_left roots o.behind p.behind (ap (λ (x : OpenDoors). x.behind) same))

-- a round over what is found from the roots of a state and what the open doors lead to
pub round_of-is : (s : State) (behind new_behind roots new_roots : List CapValue) (doors new_doors : List Door) (xs : List Found)
    → xs ≡ members_behind s (open_doors doors behind) → roots ≡ roots_of s ++ behind → new_roots ≡ roots_of s ++ new_behind
    → open_doors new_doors new_roots ≡ round xs xs (open_doors doors roots)
    → open_doors new_doors new_behind ≡ round_of s (open_doors doors behind)
round_of-is s behind new_behind roots new_roots doors new_doors xs found are new_are order =
    after_roots-same (roots_of s) (open_doors new_doors new_behind) (round xs xs (open_doors doors behind))
    (ap (open_doors new_doors) (sym new_are) ∙ order ∙ ap (λ r. round xs xs (open_doors doors r)) are
    ∙ round-after (roots_of s) xs xs (open_doors doors behind))
    ∙ ap (λ ys. round ys ys (open_doors doors behind)) found

-- ---- round after round

-- So many rounds more find what is found in all. Each so far opened a door.
pub record GoesOn (s : State) (o : OpenDoors) : Type 0 where
  pub more : ℕ
  pub enough : 2 ^ 64 ≤ more + length o.doors
  pub doors : (rounds more s o).doors ≡ doors_in s
  pub members : members_behind s (rounds more s o) ≡ members_through s

module _ (s : State) where
  pub GoesOn-begun : (n : ℕ) → n ≡ 2 ^ 64 → GoesOn s none_open
  unfolding doors_in members_through
  GoesOn-begun n long = record {
    more = n;
    enough = omega (arith, long);
    doors = ap (λ k. (rounds k s none_open).doors) long;
    members = ap (λ k. members_behind s (rounds k s none_open)) long;
  }

  rounds-done : (n : ℕ) (o : OpenDoors) → length (round_of s o).doors ≡ length o.doors → rounds n s o ≡ o
  rounds-done zero o same = refl
  rounds-done (suc n) o same =
      ap (λ b. cond b o (rounds n s (round_of s o))) (eq-eqb (length (round_of s o).doors) (length o.doors) same)

  rounds-more : (n k : ℕ) (o : OpenDoors) → n ≡ suc k → (length (round_of s o).doors ≡ length o.doors → ⊥)
      → rounds n s o ≡ rounds k s (round_of s o)
  rounds-more n k o one_more grown =
      ap (λ j. rounds j s o) one_more
      ∙ ap (λ b. cond b o (rounds k s (round_of s o))) (ne_eqb (length (round_of s o).doors) (length o.doors) grown)

  module _ (o now : OpenDoors) (on : GoesOn s o) (is : now ≡ round_of s o) where
    -- a round that opens a door
    pub GoesOn-more : length o.doors < length now.doors → length now.doors ≤ 2 ^ 64 → GoesOn s now
    GoesOn-more grown within =
        let long = on.enough in
        let k : ℕ = pred on.more in
        let one_more : on.more ≡ suc k = less_one on.more (length o.doors) (length now.doors) (2 ^ 64) long grown within in
        let same : rounds on.more s o ≡ rounds k s now =
        rounds-more on.more k o one_more (λ even. absurd (omega (arith, grown, even, ap (λ (x : OpenDoors). length x.doors) is)))
        ∙ ap (rounds k s) (sym is) in
        record {
          more = k;
          enough = enough_left on.more k (length o.doors) (length now.doors) (2 ^ 64) long grown one_more;
          doors = ap (λ (x : OpenDoors). x.doors) (sym same) ∙ on.doors;
          members = ap (members_behind s) (sym same) ∙ on.members;
        }
      where
        less_one : (n a b all : ℕ) → all ≤ n + a → a < b → b ≤ all → n ≡ suc (pred n)
        less_one zero a b all long grown within = absurd (omega (arith, long, grown, within))
        less_one (suc n) a b all long grown within = refl

        enough_left : (n k a b all : ℕ) → all ≤ n + a → a < b → n ≡ suc k → all ≤ k + b
        enough_left n k a b all long grown one_more = omega (arith, long, grown, one_more)

    -- the last round
    module _ (same : length now.doors ≡ length o.doors) where
      done : rounds on.more s o ≡ o
      done = rounds-done on.more o (sym (ap (λ (x : OpenDoors). length x.doors) is) ∙ same)

      pub doors-done : o.doors ≡ doors_in s
      doors-done = sym (ap (λ (x : OpenDoors). x.doors) done) ∙ on.doors

      pub members-done : members_behind s o ≡ members_through s
      members-done = sym (ap (members_behind s) done) ∙ on.members

-- ---- the values of members as they are seen

pub values_seen : {X : Type 0} (value : X → CapValue) (ms : List (Member X)) → map (λ x. x.value) (seen_members value ms) ≡ values value ms
values_seen value [] = refl
values_seen value (m ∷ ms) = ap (λ vs. value m.cap ∷ vs) (values_seen value ms)
