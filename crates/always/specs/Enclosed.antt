-- What any code does to a state that a set of capabilities bounds; and code that a set encloses, through its traps too (UCAM-CL-TR-987,
-- reachable capability monotonicity; CHERI-RISC-V exception handling).
use Rattle.std.specs.Prelude.{◌≡◌, ℕ, true, List, Contains}
use Rattle.base.specs.declared.fault.Fault.{Fault}
use Rattle.cap_bounds.specs.CapValue.{CapValue, is_tagged}
use Rattle.special_regs.specs.Csrs.{cycle_counted}
use Rattle.special_regs.specs.Traps.{trapped_scrs, trapped_csrs}
use Rattle.steps.specs.State.{State}
use Rattle.authority.specs.Authority.{Not}
use Rattle.authority.specs.Reachable.{IsSpecial}
use Rattle.doors.specs.Closed.{Bounds, HasDoors, IsGroundedBy}
use Rattle.doors.specs.Sets.{HasSystemBy, LeavesAloneBeyond, LeavesMemoryBeyond, LeavesDevicesBeyond}
use Rattle.reach.specs.Opens.{OpensUnsealing}
use Rattle.policy.specs.Rule.{BreaksRule}
use Rattle.policy.specs.Terms.{Terms}

-- ---- an event

-- no member may unseal anything
abbrev pub NoneUnseals : (CapValue → Type 0) → Type 0
NoneUnseals P = (c : CapValue) (otype : ℕ) → P c → OpensUnsealing c otype → ⊥

-- the set bounds the later state, and beyond what its members open all was left alone
pub record GoesOn (P : CapValue → Type 0) (s later : State) : Type 0 where
  pub bounds : Bounds P later
  pub left : LeavesAloneBeyond P s later

-- a trap was entered, and nothing else was changed
pub record IsEntered (s later : State) : Type 0 where
  pub fault : Fault
  pub scrs : later.scrs ≡ trapped_scrs fault s.scrs
  pub csrs : later.csrs ≡ cycle_counted (trapped_csrs fault s.csrs)
  pub registers : later.registers ≡ s.registers
  pub memory : later.memory ≡ s.memory
  pub devices : later.devices ≡ s.devices

-- ---- code that is enclosed

-- A set that encloses code: it has doors, and no member unseals or opens the system registers.
pub record Encloses (P : CapValue → Type 0) : Type 0 where
  pub doors : HasDoors P
  pub unseals : NoneUnseals P
  pub system : Not (HasSystemBy P)

-- The set bounds the state, and MTCC, MTDC, MScratchC and MEPCC too lie within its members' rights, under seals that it allows: a trap
-- leads to what its members open, as a jump does.
pub record IsEnclosedBy (P : CapValue → Type 0) (s : State) : Type 0 where
  pub bounds : Bounds P s
  pub specials : (v : CapValue) → is_tagged v ≡ true → IsSpecial s v → IsGroundedBy P v

-- what no member may write of memory and devices is left alone
pub record LeavesPlacesBeyond (P : CapValue → Type 0) (s later : State) : Type 0 where
  pub memory : LeavesMemoryBeyond P s.memory later.memory
  pub devices : LeavesDevicesBeyond P s.devices later.devices

-- nothing within the members' rights, under a seal that the set allows, breaks one of the rules
abbrev pub KeepsRules : (CapValue → Type 0) → List Terms → Type 0
KeepsRules P rules = (rule : Terms) → Contains rules rule → (v : CapValue) → IsGroundedBy P v → BreaksRule rule v → ⊥
