-- What stays, what is kept and what differs among some bytes of RAM.
use Rattle.std.specs.Prelude.{◌≡◌, ℕ, ◌+◌, ◌-◌, ◌%◌, ◌<◌, ◌≤◌, true, length, slice_index, ◌⊎◌}
use Rattle.base.specs.Ram.{ram_base}
use Rattle.cap_bounds.specs.CapValue.{CapValue}
use Rattle.cap_rights.specs.Permission.{permits}
use Rattle.cap_rights.specs.declared.permission.Permission.TheVariants.{Global}
use Rattle.tagged_memory.specs.Memory.{Memory, has_tag}
use Rattle.steps.specs.State.{State}
use Rattle.authority.specs.Lent.{IsGivenBy}
use Rattle.authority.specs.Reachable.{IsHeldAt}

-- the bytes of RAM among the `size` from an address are the same in both memories
abbrev pub KeepsBytes : Memory → Memory → ℕ → ℕ → Type 0
KeepsBytes m later address size =
    (a : ℕ) → ram_base ≤ a → address ≤ a → a < address + size
    → slice_index later.bytes (a - ram_base) ≡ slice_index m.bytes (a - ram_base)

-- Each granule with one of the `size` bytes from an address holds later what it held, or no tag, or a Global value that was given with
-- Global by a member: nothing that was lent.
abbrev pub KeepsNoLoan : (CapValue → Type 0) → Memory → Memory → ℕ → ℕ → Type 0
KeepsNoLoan P m later address size =
    (a granule : ℕ) (v : CapValue) → address ≤ a → a < address + size → granule % 16 ≡ 0 → granule ≤ a → a < granule + 16
    → IsHeldAt later granule v → IsHeldAt m granule v ⊎ ((permits v Global ≡ true) × IsGivenBy P v)

-- The states differ in bytes of RAM among the `size` from an address, and in nothing else.
pub record DiffersWithin (s t : State) (address size : ℕ) : Type 0 where
  pub registers : t.registers ≡ s.registers
  pub scrs : t.scrs ≡ s.scrs
  pub csrs : t.csrs ≡ s.csrs
  pub devices : t.devices ≡ s.devices
  pub ram : length t.memory.bytes ≡ length s.memory.bytes
  pub tags : (granule : ℕ) → has_tag t.memory granule ≡ has_tag s.memory granule
  pub outside :
      (a : ℕ) → ram_base ≤ a → (a < address) ⊎ (address + size ≤ a)
      → slice_index t.memory.bytes (a - ram_base) ≡ slice_index s.memory.bytes (a - ram_base)
