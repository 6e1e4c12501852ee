-- Sets of capabilities that are closed: under the links of a state, and under the doors that sealed jumps go through.
use Rattle.std.specs.Prelude.{◌≡◌, ℕ, true, None}
use Rattle.base.specs.ObjectType.{sentry_type}
use Rattle.cap_bounds.specs.CapValue.{CapValue, is_tagged, is_sealed, value_otype}
use Rattle.cap_rights.specs.Opened.{opened}
use Rattle.cap_rights.specs.Permission.{permits}
use Rattle.cap_rights.specs.declared.permission.Permission.TheVariants.{CInvoke}
use Rattle.cap_rights.specs.Rights.{OpensSystem, OpensGranule, OpensType}
use Rattle.cap_checks.specs.FirstFault.{invoke_fault}
use Rattle.steps.specs.State.{State}
use Rattle.authority.specs.Reachable.{IsRoot, IsSpecial, IsHeldAt}
use Rattle.doors.specs.Sets.{IsCoveredBy, IsSealAllowedBy}

-- ---- links

-- The roots of a state lie in Q, and so does what members of P open in it.
pub record LinksLeadTo (P Q : CapValue → Type 0) (s : State) : Type 0 where
  pub roots : (v : CapValue) → is_tagged v ≡ true → IsRoot s v → Q v
  pub specials : (c v : CapValue) → P c → OpensSystem c → is_tagged v ≡ true → IsSpecial s v → Q v
  pub granules : (c v : CapValue) (granule : ℕ) → P c → OpensGranule c granule → IsHeldAt s.memory granule v → Q v

-- closed under links: the roots are members, and so is what a member opens
abbrev pub IsClosed : (CapValue → Type 0) → State → Type 0
IsClosed P s = LinksLeadTo P P s

-- within the rights of a member, and under a seal that the set allows
pub record IsGroundedBy (P : CapValue → Type 0) (v : CapValue) : Type 0 where
  pub covered : IsCoveredBy P v
  pub seal : is_sealed v ≡ true → IsSealAllowedBy P v

-- The set bounds a state: the roots lie within its members' rights, under seals that it allows, and so does what a member opens. A set
-- that is closed under links bounds its state, and bounds what comes after it.
abbrev pub Bounds : (CapValue → Type 0) → State → Type 0
Bounds P s = LinksLeadTo P (IsGroundedBy P) s

-- ---- doors

-- CInvoke accepts the two as code and data, in some two registers
pub record IsPair (code datum : CapValue) : Type 0 where
  pub code_register : ℕ
  pub data_register : ℕ
  pub accepted : invoke_fault code code_register datum data_register ≡ None

-- A sealed jump may open the sealed value, for code that holds it and the key: a sentry, whatever the key is; the code or the data of a
-- pair that CInvoke accepts, with the other as the key; and what has CInvoke, with a key that may seal something with its type.
pub data IsOpenedBy (c key : CapValue) : Type 0 where
  entry : value_otype c ≡ sentry_type → IsOpenedBy c key
  as_code : IsPair c key → IsOpenedBy c key
  as_data : IsPair key c → IsOpenedBy c key
  own_seal : is_sealed c ≡ true → permits c CInvoke ≡ true → OpensType key (value_otype c) → IsOpenedBy c key

-- closed under doors: what a member opens of another is a member
abbrev pub HasDoors : (CapValue → Type 0) → Type 0
HasDoors P = (c key : CapValue) → P c → P key → IsOpenedBy c key → P (opened c)
