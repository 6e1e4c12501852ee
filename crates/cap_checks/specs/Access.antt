-- Accesses to memory: what each moves, and what it needs.
use Rattle.std.specs.Prelude.{ℕ, Bool, true, false, if◌then◌else◌}
use Rattle.cap_bounds.specs.CapValue.{CapValue, is_tagged}
use Rattle.cap_checks.specs.declared.access.Access.{Access}
use Rattle.cap_checks.specs.declared.access.Access.TheVariants.{Load, Store, LoadCapability, StoreCapability}
use Rattle.cap_checks.specs.declared.access.Stored.{Stored}
use Rattle.cap_checks.specs.declared.access.Stored.TheVariants as stored
use Rattle.base.specs.declared.cause.Cause.{Cause}
use Rattle.base.specs.declared.cause.Cause.TheVariants as cause
use Rattle.base.specs.declared.cause.CheriCause.{CheriCause}
use Rattle.base.specs.declared.cause.CheriCause.TheVariants as forbids
use Rattle.cap_rights.specs.Permission.{permits}
use Rattle.cap_rights.specs.declared.permission.Permission.{Permission}
use Rattle.cap_rights.specs.declared.permission.Permission.TheVariants as permission
use Rattle.base.specs.Size.{bytes_of}

-- what is stored where a capability may be: 128 bits without a tag, or a capability, which is Global or not
abbrev pub stored_of : CapValue → Stored
stored_of v = if is_tagged v then (if permits v permission.Global then stored.Global else stored.Local) else stored.Untagged

-- how many bytes it moves
abbrev pub width_of : Access → ℕ
width_of (Load size) = bytes_of size
width_of (Store size) = bytes_of size
width_of LoadCapability = 16
width_of (StoreCapability what) = 16

-- the permission that its authority needs, and the cause where it lacks it
abbrev pub needed : Access → Permission
needed (Load size) = permission.Load
needed (Store size) = permission.Store
needed LoadCapability = permission.Load
needed (StoreCapability what) = permission.Store

abbrev pub lacking : Access → CheriCause
lacking (Load size) = forbids.Load
lacking (Store size) = forbids.Store
lacking LoadCapability = forbids.Load
lacking (StoreCapability what) = forbids.Store

-- it stores a capability with its tag
abbrev pub stores_capability : Access → Bool
stores_capability (Load size) = false
stores_capability (Store size) = false
stores_capability LoadCapability = false
stores_capability (StoreCapability stored.Untagged) = false
stores_capability (StoreCapability stored.Local) = true
stores_capability (StoreCapability stored.Global) = true

-- it stores a capability that is not Global
abbrev pub stores_local : Access → Bool
stores_local (Load size) = false
stores_local (Store size) = false
stores_local LoadCapability = false
stores_local (StoreCapability stored.Untagged) = false
stores_local (StoreCapability stored.Local) = true
stores_local (StoreCapability stored.Global) = false

-- the cause of an address that is no multiple of the width
abbrev pub misaligned : Access → Cause
misaligned (Load size) = cause.MisalignedLoad
misaligned (Store size) = cause.MisalignedStore
misaligned LoadCapability = cause.MisalignedLoad
misaligned (StoreCapability what) = cause.MisalignedStore
