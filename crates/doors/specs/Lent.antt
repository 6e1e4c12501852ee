-- Where what is lent without Global may be later, and what of it code may reach again once the kernel has cleared it away (UCAM-CL-TR-987,
-- capability permissions: Global, Permit_Store_Local_Capability).
use Rattle.std.specs.Prelude.{◌≡◌, ℕ, true, false}
use Rattle.cap_bounds.specs.CapValue.{CapValue, is_tagged}
use Rattle.cap_rights.specs.Permission.{permits}
use Rattle.cap_rights.specs.declared.permission.Permission.TheVariants.{Global}
use Rattle.cap_rights.specs.Rights.{OpensGranule, OpensKeeping}
use Rattle.tagged_memory.specs.Memory.{Memory}
use Rattle.steps.specs.State.{State}
use Rattle.authority.specs.Authority.{Not, HasSystem}
use Rattle.authority.specs.Reachable.{IsRoot, IsSpecial, IsHeldAt, IsReachable}

-- what was lent: a capability without Global
pub record IsLent (v : CapValue) : Type 0 where
  pub tagged : is_tagged v ≡ true
  pub local : permits v Global ≡ false

-- a register, PCC, DDC, a special register or a granule holds the value
pub data IsIn (s : State) (v : CapValue) : Type 0 where
  at_root : IsRoot s v → IsIn s v
  at_special : IsSpecial s v → IsIn s v
  at_granule : (granule : ℕ) → IsHeldAt s.memory granule v → IsIn s v

-- Left behind: a granule holds the value that held it before, or that a member may keep it in.
pub data IsLeftBehind (P : CapValue → Type 0) (m later : Memory) (v : CapValue) : Type 0 where
  lay : (granule : ℕ) → IsHeldAt later granule v → IsHeldAt m granule v → IsLeftBehind P m later v
  kept : (granule : ℕ) → IsHeldAt later granule v → (c : CapValue) → P c → OpensKeeping c granule → IsLeftBehind P m later v

-- Where a lent value may be later: in a register, PCC or DDC; in MEPCC, since code may jump to what it was lent, and trap there; in a
-- special register that held it before; or left behind.
pub data IsFoundIn (P : CapValue → Type 0) (s later : State) (v : CapValue) : Type 0 where
  in_root : IsRoot later v → IsFoundIn P s later v
  in_mepcc : v ≡ later.scrs.mepcc → IsFoundIn P s later v
  in_special : IsSpecial later v → IsSpecial s v → IsFoundIn P s later v
  left : IsLeftBehind P s.memory later.memory v → IsFoundIn P s later v

-- ---- what the kernel clears

-- The kernel has cleared a state of a value: no register, PCC or DDC holds it, nothing reachable opens the system registers, and each
-- granule from which something reachable may load it held it before.
pub record IsClearedOf (v : CapValue) (later cleared : State) : Type 0 where
  pub roots : Not (IsRoot cleared v)
  pub system : Not (HasSystem cleared)
  pub granules :
      (c : CapValue) (granule : ℕ) → IsReachable cleared c → OpensGranule c granule → IsHeldAt cleared.memory granule v
      → IsHeldAt later.memory granule v
