-- The capabilities that code can come to hold, from a state on, without a trap, an unsealing or a sealed jump (UCAM-CL-TR-987,
-- reachable capability monotonicity). Each constructor of *reachable* but the first is one link more.
use Rattle.std.specs.Prelude.{◌≡◌, ℕ, true}
use Rattle.cap_bounds.specs.CapValue.{CapValue, is_tagged, value_of}
use Rattle.cap_rights.specs.Rights.{OpensSystem, OpensGranule}
use Rattle.tagged_memory.specs.Memory.{Memory, has_tag, word_at}
use Rattle.registers.specs.Registers.{register}
use Rattle.steps.specs.State.{State}

-- what instructions name without further rights: the 32 registers, PCC and DDC (past the last register is null, which has no tag)
pub data IsRoot (s : State) (v : CapValue) : Type 0 where
  in_register : (n : ℕ) → v ≡ register s.registers n → IsRoot s v
  in_pcc : v ≡ s.scrs.pcc → IsRoot s v
  in_ddc : v ≡ s.scrs.ddc → IsRoot s v

-- what Access_System_Registers guards
pub data IsSpecial (s : State) (v : CapValue) : Type 0 where
  in_mtcc : v ≡ s.scrs.mtcc → IsSpecial s v
  in_mtdc : v ≡ s.scrs.mtdc → IsSpecial s v
  in_mscratchc : v ≡ s.scrs.mscratchc → IsSpecial s v
  in_mepcc : v ≡ s.scrs.mepcc → IsSpecial s v

-- what a tagged granule holds
pub record IsHeldAt (m : Memory) (granule : ℕ) (v : CapValue) : Type 0 where
  pub tagged : has_tag m granule ≡ true
  pub value : v ≡ value_of (word_at m granule) true

-- Reachable are the tagged roots; through a reachable value that opens the system, the tagged special registers, since code may jump to
-- that value; and through a reachable value that opens a granule, what the granule holds.
pub data IsReachable (s : State) : CapValue → Type 0 where
  from_root : {v : CapValue} → is_tagged v ≡ true → IsRoot s v → IsReachable s v
  from_special : {c v : CapValue} → IsReachable s c → OpensSystem c → is_tagged v ≡ true → IsSpecial s v → IsReachable s v
  from_granule : {c v : CapValue} (granule : ℕ) → IsReachable s c → OpensGranule c granule → IsHeldAt s.memory granule v → IsReachable s v
