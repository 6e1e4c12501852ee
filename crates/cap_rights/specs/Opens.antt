-- Tests for what a capability opens by itself. (What they test stands in Rights, and that they are right in the calls that answer them.)
use Rattle.std.specs.Prelude.{ℕ, Bool, not, ◌&&◌}
use Rattle.cap_bounds.specs.CapValue.{CapValue, is_sealed}
use Rattle.cap_rights.specs.declared.permission.Permission.{Permission}
use Rattle.cap_rights.specs.declared.permission.Permission.TheVariants as permission
use Rattle.cap_rights.specs.Permission.{permits}
use Rattle.cap_rights.specs.Derivations.{address_in_bounds}

-- unsealed, with the permission
abbrev pub allows : Permission → CapValue → Bool
allows permission c = not (is_sealed c) && permits c permission

-- a byte may be stored at an address through it
abbrev pub opens_store : ℕ → CapValue → Bool
opens_store a c = allows permission.Store c && address_in_bounds c a

-- code that jumps there may use the system registers
abbrev pub opens_system : CapValue → Bool
opens_system c = allows permission.Execute c && permits c permission.AccessSystemRegisters
