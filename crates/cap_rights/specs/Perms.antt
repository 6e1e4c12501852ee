-- Sets of the 16 permissions as numbers, and the number that the rows CGetPerm and CAndPerm show and take (UCAM-CL-TR-987, CGetPerm).
use Rattle.std.specs.Prelude.{◌≡◌, ℕ, ◌+◌, ◌*◌, ◌/◌, ◌%◌, ◌^◌, ◌<◌, ◌==◌, bit_and}
use Rattle.cap_bounds.specs.CapValue.{CapValue, value_perms}
use Rattle.cap_rights.specs.declared.permission.Permission.{Permission}
use Rattle.cap_rights.specs.Permission.{bit_of, permits}

-- the set of one hardware permission
abbrev pub set_of_one : Permission → ℕ
set_of_one p = 2 ^ bit_of p

-- the hardware permissions at bits 0 to 11 as they are, the user permissions at bits 15 to 18
unfoldable pub hardware_view : ℕ → ℕ
hardware_view perms = perms / 2 ^ 12 * 2 ^ 15 + perms % 2 ^ 12

-- the permissions that such a number names by its bits 0 to 11 and 15 to 18, whatever its other bits
unfoldable pub perms_in_view : ℕ → ℕ
perms_in_view view = view / 2 ^ 15 % 2 ^ 4 * 2 ^ 12 + view % 2 ^ 12

-- a value permits what the set of its permissions has
abbrev pub PermittedIsAmongThePermissions : Type 0
PermittedIsAmongThePermissions =
    (v : CapValue) (p : Permission) → permits v p ≡ (bit_and (value_perms v) (set_of_one p) == set_of_one p)

-- a set of permissions is the one that its number names
abbrev pub ViewNamesItsSet : Type 0
ViewNamesItsSet = (perms : ℕ) → perms < 2 ^ 16 → perms_in_view (hardware_view perms) ≡ perms
