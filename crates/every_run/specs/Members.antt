-- Lists of capabilities that enclose the code of a state.
use Rattle.std.specs.Prelude.{◌≡◌, ◌⊎◌, ◌<◌, ℕ, true, false, List, Contains}
use Rattle.cap_bounds.specs.CapValue.{CapValue, is_tagged, is_sealed, value_base, value_top}
use Rattle.cap_rights.specs.Permission.{permits}
use Rattle.cap_rights.specs.declared.permission.Permission.TheVariants.{Seal, Unseal}
use Rattle.cap_rights.specs.Rights.{OpensGranule, OpensSystem}
use Rattle.tagged_memory.specs.Memory.{Memory, has_tag}
use Rattle.authority.specs.Reachable.{IsHeldAt}
use Rattle.doors.specs.Closed.{HasDoors}
use Rattle.policy.specs.Rule.{BreaksRule}
use Rattle.policy.specs.Terms.{Terms}
use Rattle.every_run.specs.Stands.{AreKnown}

-- Among the values is all that a search begins with, what any of them opens, and what its doors lead to.
pub record HoldAll (vs begin : List CapValue) (m : Memory) : Type 0 where
  pub roots : (v : CapValue) → is_tagged v ≡ true → Contains begin v → Contains vs v
  pub granules : (c v : CapValue) (granule : ℕ) → Contains vs c → OpensGranule c granule → IsHeldAt m granule v → Contains vs v
  pub doors : HasDoors (Contains vs)

-- unsealed, with Seal or Unseal, and its bounds aren't empty
pub record MaySeal (c : CapValue) : Type 0 where
  pub unsealed : is_sealed c ≡ false
  pub permitted : (permits c Seal ≡ true) ⊎ (permits c Unseal ≡ true)
  pub some : value_base c < value_top c

-- none of the values opens the system registers, seals or unseals
pub record AreHarmless (vs : List CapValue) : Type 0 where
  pub system : (c : CapValue) → Contains vs c → OpensSystem c → ⊥
  pub seal : (c : CapValue) → Contains vs c → MaySeal c → ⊥

-- none of the values breaks one of the rules
abbrev pub KeepEach : List Terms → List CapValue → Type 0
KeepEach rules vs = (rule : Terms) → Contains rules rule → (c : CapValue) → Contains vs c → BreaksRule rule c → ⊥

-- each byte of a tagged granule is known
abbrev pub AreTagsKnown : (ℕ → Type 0) → Memory → Type 0
AreTagsKnown Known m = (granule : ℕ) → has_tag m granule ≡ true → AreKnown Known granule 16
