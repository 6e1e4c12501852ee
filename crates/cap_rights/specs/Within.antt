-- One value within another, as a fact.
use Rattle.std.specs.Prelude.{◌≡◌, ◌≤◌, IsTrue, bit_and}
use Rattle.cap_bounds.specs.CapValue.{CapValue, is_tagged, value_base, value_top, value_perms}

-- the value's bounds lie in another's, and its permissions are among the other's
pub record IsWithin (v outer : CapValue) : Type 0 where
  pub base : value_base outer ≤ value_base v
  pub top : value_top v ≤ value_top outer
  pub perms : bit_and (value_perms v) (value_perms outer) ≡ value_perms v

-- tagged, the value lies within another
abbrev pub IsWithinIfTagged : CapValue → CapValue → Type 0
IsWithinIfTagged v outer = IsTrue (is_tagged v) → IsWithin v outer
