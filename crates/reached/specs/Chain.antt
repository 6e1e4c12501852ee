-- The way from a root to a member, by the members that lead there.
use Rattle.std.specs.Prelude.{◌≡◌, ℕ, ◌+◌, ◌-◌, ◌<◌, Bool, true, false, List, length, ◌⊎◌, slice_index, slice_index_or}
use Rattle.cap_bounds.specs.CapValue.{CapValue}
use Rattle.cap_rights.specs.Rights.{OpensSystem, OpensGranule}
use Rattle.reached.specs.declared.member.Member.{Member}
use Rattle.reached.specs.declared.member.Place.{Place}
use Rattle.reached.specs.declared.member.Place.TheVariants.{Root, Special, Granule}

abbrev pub is_root : Place → Bool
is_root (Root n) = true
is_root (Special n) = false
is_root (Granule granule) = false

-- each member that is no root was found through an earlier one
abbrev pub AreInOrder : {X : Type 0} → List (Member X) → Type 0
AreInOrder {X} ms =
    (k : ℕ) (d : Member X) → k < length ms → is_root (slice_index_or ms k d).place ≡ false → (slice_index_or ms k d).from < k

-- a member was found through the one of this number
pub record IsFrom {X : Type 0} (x : Member X) (from : ℕ) : Type 0 where
  pub no_root : is_root x.place ≡ false
  pub from_is : x.from ≡ from

-- The numbers of members that lead to the one of a number: a root first, and each later one was found through the one before it.
pub record IsChain {X : Type 0} (ms : List (Member X)) (index : ℕ) (way : List ℕ) : Type 0 where
  pub some : 0 < length way
  pub members : (j : ℕ) → j < length way → slice_index way j < length ms
  pub root : (d : Member X) → is_root (slice_index_or ms (slice_index way 0) d).place ≡ true
  pub links : (j : ℕ) (d : Member X) → j + 1 < length way → IsFrom (slice_index_or ms (slice_index way (j + 1)) d) (slice_index way j)
  pub last : slice_index way (length way - 1) ≡ index

-- the place of a member is one that a value opens
abbrev pub OpensPlace : {X : Type 0} → CapValue → Member X → Type 0
OpensPlace c x =
    ((number : ℕ) × (x.place ≡ Special number) × OpensSystem c) ⊎ ((granule : ℕ) × (x.place ≡ Granule granule) × OpensGranule c granule)

-- each member of a chain opens the place of the next
abbrev pub LinksOpen : {X : Type 0} → (X → CapValue) → List (Member X) → List ℕ → Type 0
LinksOpen {X} value ms way =
    (j : ℕ) (d : Member X) → j + 1 < length way
    → OpensPlace (value (slice_index_or ms (slice_index way j) d).cap) (slice_index_or ms (slice_index way (j + 1)) d)
