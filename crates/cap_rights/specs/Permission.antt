-- The hardware permissions (UCAM-CL-TR-987, capability permissions).
use Rattle.std.specs.Prelude.{ℕ, ◌/◌, ◌%◌, ◌^◌, Bool, ◌==◌}
use Rattle.cap_bounds.specs.CapValue.{CapValue, value_perms}
use Rattle.cap_rights.specs.declared.permission.Permission.{Permission}
use Rattle.cap_rights.specs.declared.permission.Permission.TheVariants.{Global, Execute, Load, Store, LoadCapability, StoreCapability}
use Rattle.cap_rights.specs.declared.permission.Permission.TheVariants.{StoreLocalCapability, Seal, CInvoke, Unseal, AccessSystemRegisters}
use Rattle.cap_rights.specs.declared.permission.Permission.TheVariants.{SetCid}

-- the bit of a permission
abbrev pub bit_of : Permission → ℕ
bit_of Global = 0
bit_of Execute = 1
bit_of Load = 2
bit_of Store = 3
bit_of LoadCapability = 4
bit_of StoreCapability = 5
bit_of StoreLocalCapability = 6
bit_of Seal = 7
bit_of CInvoke = 8
bit_of Unseal = 9
bit_of AccessSystemRegisters = 10
bit_of SetCid = 11

-- the value has the permission
unfoldable pub permits : CapValue → Permission → Bool
permits v p = value_perms v / 2 ^ bit_of p % 2 == 1
