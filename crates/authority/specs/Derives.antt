-- What the effect of a step may do with what is reachable where it is decided: each value that it writes is grounded, each place that it
-- changes is writable, and system registers change where the reachable capabilities open them.
use Rattle.std.specs.Prelude.{◌≡◌, ℕ, ◌+◌, ◌<◌, ◌≤◌, true, false, None}
use Rattle.base.specs.Size.{bytes_of}
use Rattle.base.specs.declared.registers.scr.TheConstants.{MTCC}
use Rattle.cap_bounds.specs.CapValue.{CapValue, is_tagged}
use Rattle.cap_rights.specs.Permission.{permits}
use Rattle.cap_rights.specs.declared.permission.Permission.TheVariants.{Global, StoreLocalCapability}
use Rattle.cap_rights.specs.Rights.{OpensCapabilityStore}
use Rattle.cap_checks.specs.FirstFault.{fetch_fault}
use Rattle.special_regs.specs.Refusals.{has_system_access}
use Rattle.special_regs.specs.Traps.{is_sentry}
use Rattle.steps.specs.declared.effect.Effect.{Effect}
use Rattle.steps.specs.declared.effect.Effect.TheVariants.{Trap, Nothing, Write, Unseal, Store, StoreCapability, DeviceLoad, DeviceStore}
use Rattle.steps.specs.declared.effect.Effect.TheVariants.{Jump, Link, Enter, Special, Csr, Return}
use Rattle.steps.specs.State.{State}
use Rattle.authority.specs.Authority.{IsWritable}
use Rattle.authority.specs.Grounded.{IsGroundedIfTagged}
use Rattle.authority.specs.Reachable.{IsReachable}

-- each of the `size` bytes from an address is writable
abbrev pub MayWrite : State → ℕ → ℕ → Type 0
MayWrite s address size = (a : ℕ) → address ≤ a → a < address + size → IsWritable s a

-- the instruction may use system registers: PCC passes the checks of the fetch, and has Access_System_Registers
pub record UsesSystem (s : State) : Type 0 where
  pub passes : fetch_fault s.scrs.pcc ≡ None
  pub access : has_system_access s.scrs ≡ true

-- a tagged value may be stored in the granule through something reachable, and one without Global may be kept there through it
pub record MayStoreTagged (s : State) (granule : ℕ) (v : CapValue) : Type 0 where
  pub source : CapValue
  pub reachable : IsReachable s source
  pub opens : OpensCapabilityStore source granule
  pub locals : permits v Global ≡ false → permits source StoreLocalCapability ≡ true

-- (what a trap, an unsealing and a sealed jump do is not asked: a stretch ends there)
abbrev pub Derives : Effect CapValue → State → Type 0
Derives (Trap fault) s = Unit {0}
Derives Nothing s = Unit {0}
Derives (Write w) s = IsGroundedIfTagged s w.value
Derives (Unseal w) s = Unit {0}
Derives (Store w) s = MayWrite s w.address (bytes_of w.size)
Derives (StoreCapability w) s =
    MayWrite s w.address 16 × IsGroundedIfTagged s w.value × (is_tagged w.value ≡ true → MayStoreTagged s w.address w.value)
Derives (DeviceLoad l) s = IsGroundedIfTagged s l.value
Derives (DeviceStore w) s = IsWritable s w.address
Derives (Jump target) s = Unit {0}
Derives (Link l) s = IsGroundedIfTagged s l.link
Derives (Enter e) s = e.sealed ≡ false → IsGroundedIfTagged s e.link × IsGroundedIfTagged s e.code
Derives (Special w) s = IsGroundedIfTagged s w.old × IsGroundedIfTagged s w.value × (MTCC ≤ w.number → UsesSystem s)
Derives (Csr w) s = IsGroundedIfTagged s w.old × UsesSystem s
Derives (Return sealed) s = UsesSystem s × (sealed ≡ is_sentry s.scrs.mepcc)
