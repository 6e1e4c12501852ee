-- How each member was found: a chain of links from the roots.
use Rattle.std.specs.Prelude.{◌≡◌, ℕ, ◌<◌, Bool, if◌then◌else◌, List, length, map, slice_index_or}
use Rattle.cap_bounds.specs.CapValue.{CapValue}
use Rattle.cap_rights.specs.Rights.{OpensSystem, OpensGranule}
use Rattle.tagged_memory.specs.Memory.{Memory}
use Rattle.reached.specs.declared.member.Member.{Member}
use Rattle.reached.specs.declared.member.Place.TheVariants.{Root, Special, Granule}
use Rattle.reached.specs.Reached.{IsHeldAt}

-- the member at a place of the list stands among the roots; or among the special registers, and an earlier member opens the system; or in
-- a granule that an earlier member opens
pub data IsLinked {X : Type 0} (value : X → CapValue) (roots specials : List CapValue) (m : Memory) (vs : List CapValue)
    (k : ℕ) (x : Member X) : Type 0 where
  in_root : (n : ℕ) → x.place ≡ Root n → n < length roots → slice_index_or roots n (value x.cap) ≡ value x.cap
      → IsLinked value roots specials m vs k x
  in_special : (n : ℕ) → x.place ≡ Special n → n < length specials → slice_index_or specials n (value x.cap) ≡ value x.cap
      → x.from < k → OpensSystem (slice_index_or vs x.from (value x.cap)) → IsLinked value roots specials m vs k x
  in_granule : (granule : ℕ) → x.place ≡ Granule granule → IsHeldAt m granule (value x.cap)
      → x.from < k → OpensGranule (slice_index_or vs x.from (value x.cap)) granule → IsLinked value roots specials m vs k x

-- the values of members
abbrev pub values : {X : Type 0} → (X → CapValue) → List (Member X) → List CapValue
values value ms = map (λ x. value x.cap) ms

-- each member has its link
abbrev pub AreLinked : {X : Type 0} → (X → CapValue) → List CapValue → List CapValue → Memory → List (Member X) → Type 0
AreLinked {X} value roots specials m ms =
    (k : ℕ) (d : Member X) → k < length ms → IsLinked value roots specials m (values value ms) k (slice_index_or ms k d)

-- a member in a granule that a capability opens
pub record IsMemberThrough {X : Type 0} (value : X → CapValue) (m : Memory) (c : CapValue) (from : ℕ) (x : Member X) : Type 0 where
  pub from_is : x.from ≡ from
  pub granule : ℕ
  pub place_is : x.place ≡ Granule granule
  pub opens : OpensGranule c granule
  pub here : IsHeldAt m granule (value x.cap)

-- a member among some capabilities
pub record IsAmong {X : Type 0} (value : X → CapValue) (caps : List CapValue) (special : Bool) (from : ℕ) (x : Member X) : Type 0 where
  pub from_is : x.from ≡ from
  pub number : ℕ
  pub place_is : x.place ≡ (if special then Special number else Root number)
  pub some : number < length caps
  pub is_it : slice_index_or caps number (value x.cap) ≡ value x.cap
