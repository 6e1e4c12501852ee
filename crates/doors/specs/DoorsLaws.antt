-- What is reachable through doors is the least set that is closed under links and doors; and a set with doors that bounds a state bounds
-- what is reachable through doors in it.
use Rattle.std.proofs.Common.{◌≡◌, true, subst, sym, ap}
use Rattle.base.specs.ObjectType.{sentry_type}
use Rattle.cap_bounds.specs.CapValue.{CapValue, is_tagged, value_otype}
use Rattle.cap_rights.specs.Opened.{opened}
use Rattle.cap_rights.specs.Rights.{OpensType}
use Rattle.cap_rights.specs.RightsLaws.{OpensSystem-outer, OpensGranule-outer, OpensType-outer}
use Rattle.steps.specs.State.{State}
use Rattle.authority.specs.Reachable.{IsReachable}
use Rattle.doors.specs.Sets.{IsSealAllowedBy, as_member, as_sentry, by_member}
use Rattle.doors.specs.Closed.{IsClosed, IsGroundedBy, Bounds, IsPair, IsOpenedBy, entry, as_code, as_data, own_seal, HasDoors}
use Rattle.doors.specs.Doors.{IsReachableThroughDoors, from_root, from_special, from_granule, behind_door}
use Rattle.doors.specs.PairLaws.{pair-invocable}
use Rattle.doors.specs.SetLaws.{Bounds-closed, closed-reachable, IsGroundedIfTaggedBy, grounded_by-opened, tagged-opened}

-- ---- the doors of a set

module _ (P : CapValue → Type 0) (doors : HasDoors P) where
  pub behind-sentry : (v : CapValue) → value_otype v ≡ sentry_type → IsGroundedIfTaggedBy P v → IsGroundedIfTaggedBy P (opened v)
  behind-sentry v sentry earned = grounded_by-opened P v earned (λ member. doors v v member member (entry sentry))

  -- the code or the data of a pair is opened by the other, or by what its seal is allowed for
  code-opened : (code datum : CapValue) → IsPair code datum → IsSealAllowedBy P datum → P code → P (opened code)
  code-opened code datum pair (as_member key) member = doors code datum member key (as_code pair)
  code-opened code datum pair (as_sentry sentry) member = absurd ((pair-invocable code datum pair).second.no_sentry sentry)
  code-opened code datum pair (by_member authority key opens) member =
      let both = pair-invocable code datum pair in
      doors code authority member key
      (own_seal both.first.sealed both.first.invokes (subst (OpensType authority) (sym both.types) opens))

  data-opened : (code datum : CapValue) → IsPair code datum → IsSealAllowedBy P code → P datum → P (opened datum)
  data-opened code datum pair (as_member key) member = doors datum code member key (as_data pair)
  data-opened code datum pair (as_sentry sentry) member = absurd ((pair-invocable code datum pair).first.no_sentry sentry)
  data-opened code datum pair (by_member authority key opens) member =
      let both = pair-invocable code datum pair in
      doors datum authority member key
      (own_seal both.second.sealed both.second.invokes (subst (OpensType authority) both.types opens))

  module _ (code datum : CapValue) (pair : IsPair code datum) (one : IsGroundedIfTaggedBy P code) (two : IsGroundedIfTaggedBy P datum) where
    pub behind-code : IsGroundedIfTaggedBy P (opened code)
    behind-code =
        let both = pair-invocable code datum pair in
        grounded_by-opened P code one (code-opened code datum pair ((two both.second.tagged).seal both.second.sealed))

    pub behind-data : IsGroundedIfTaggedBy P (opened datum)
    behind-data =
        let both = pair-invocable code datum pair in
        grounded_by-opened P datum two (data-opened code datum pair ((one both.first.tagged).seal both.first.sealed))

  behind-door : (c key : CapValue) → IsOpenedBy c key → IsGroundedBy P c → IsGroundedBy P key → IsGroundedIfTaggedBy P (opened c)
  behind-door c key (entry sentry) earned by = behind-sentry c sentry (λ _. earned)
  behind-door c key (as_code pair) earned by = behind-code c key pair (λ _. earned) (λ _. by)
  behind-door c key (as_data pair) earned by = behind-data key c pair (λ _. by) (λ _. earned)
  behind-door c key (own_seal sealed invokes opens) earned by =
      let authority = by.covered in
      grounded_by-opened P c (λ _. earned)
      (λ member. doors c authority.source member authority.member
      (own_seal sealed invokes (OpensType-outer key authority.source (value_otype c) authority.within opens)))

-- ---- what is reachable through doors

pub doors-closed : (s : State) → IsClosed (IsReachableThroughDoors s) s
doors-closed s = record {
  roots = λ v tagged root. from_root tagged root;
  specials = λ c v member opens tagged special. from_special member opens tagged special;
  granules = λ c v granule member opens here. from_granule granule member opens here;
}

pub doors-have : (s : State) → HasDoors (IsReachableThroughDoors s)
doors-have s = λ c key before by opens. behind_door before by opens

pub doors-bound : (s : State) → Bounds (IsReachableThroughDoors s) s
doors-bound s = Bounds-closed (IsReachableThroughDoors s) s (doors-closed s)

pub doors-reachable : (s : State) (v : CapValue) → IsReachable s v → IsReachableThroughDoors s v
doors-reachable s = closed-reachable (IsReachableThroughDoors s) s (doors-closed s)

module _ (P : CapValue → Type 0) (s : State) where
  pub doors-least : IsClosed P s → HasDoors P → (v : CapValue) → IsReachableThroughDoors s v → P v
  doors-least closed doors v (from_root tagged root) = closed.roots v tagged root
  doors-least closed doors v (from_special {c = c} before opens tagged special) =
      closed.specials c v (doors-least closed doors c before) opens tagged special
  doors-least closed doors v (from_granule {c = c} granule before opens here) =
      closed.granules c v granule (doors-least closed doors c before) opens here
  doors-least closed doors v (behind_door {c = c} {key = key} before by opens) =
      doors c key (doors-least closed doors c before) (doors-least closed doors key by) opens

-- ---- a set with doors that bounds the state

through-tagged : (s : State) (v : CapValue) → IsReachableThroughDoors s v → is_tagged v ≡ true
through-tagged s v (from_root tagged root) = tagged
through-tagged s v (from_special before opens tagged special) = tagged
through-tagged s v (from_granule granule before opens here) = ap is_tagged here.value
through-tagged s v (behind_door {c = c} before by opens) = tagged-opened c (through-tagged s c before)

module _ (P : CapValue → Type 0) (s : State) (bounds : Bounds P s) (doors : HasDoors P) where
  pub through-bounded : (v : CapValue) → IsReachableThroughDoors s v → IsGroundedBy P v
  through-bounded v (from_root tagged root) = bounds.roots v tagged root
  through-bounded v (from_special {c = c} before opens tagged special) =
      let g = (through-bounded c before).covered in
      bounds.specials g.source v g.member (OpensSystem-outer c g.source g.within opens) tagged special
  through-bounded v (from_granule {c = c} granule before opens here) =
      let g = (through-bounded c before).covered in
      bounds.granules g.source v granule g.member (OpensGranule-outer c g.source granule g.within opens) here
  through-bounded v (behind_door {c = c} {key = key} before by opens) =
      behind-door P doors c key opens (through-bounded c before) (through-bounded key by) (tagged-opened c (through-tagged s c before))
