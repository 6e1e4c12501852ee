-- What seals, and what CGetType shows of an object type (UCAM-CL-TR-987, object types).
use Rattle.std.specs.Prelude.{ℕ, ◌+◌, ◌-◌, ◌^◌, if◌then◌else◌}
use Rattle.base.specs.ObjectType.{is_reserved}
use Rattle.base.specs.declared.otype.TheConstants.{FIRST_RESERVED}

-- the greatest type that seals: those above it are reserved
abbrev pub greatest_sealing_type : ℕ
greatest_sealing_type = FIRST_RESERVED - 1

-- the number that CGetType shows: a reserved type less 2 ^ 18, as a signed number of 64 bits
unfoldable pub signed_type : ℕ → ℕ
signed_type otype = if is_reserved otype then otype + 2 ^ 64 - 2 ^ 18 else otype
