-- What the rows of each kind move between a register and memory.
use Rattle.std.specs.Prelude.{Bool, true, false, Option, Some, None}
use Rattle.isa_rows.specs.declared.kinds.Kind.{Kind}
use Rattle.isa_rows.specs.declared.kinds.Kind.TheVariants as kind
use Rattle.isa_rows.specs.declared.transfers.Transfer.{Transfer}
use Rattle.isa_rows.specs.declared.transfers.Width.{Width}
use Rattle.isa_rows.specs.declared.transfers.Width.TheVariants.{Data, Capability}

abbrev pub is_data : Width → Bool
is_data (Data size signed) = true
is_data Capability = false

abbrev pub is_capability : Width → Bool
is_capability (Data size signed) = false
is_capability Capability = true

-- a transfer is one of a kind of rows: loads and stores move data or a capability, and every other row moves nothing
abbrev pub is_moved_by : Kind → Option Transfer → Bool
is_moved_by kind.Load (Some transfer) = is_data transfer.width
is_moved_by kind.Store (Some transfer) = is_data transfer.width
is_moved_by kind.LoadCapability (Some transfer) = is_capability transfer.width
is_moved_by kind.StoreCapability (Some transfer) = is_capability transfer.width
is_moved_by kind.Load None = false
is_moved_by kind.Store None = false
is_moved_by kind.LoadCapability None = false
is_moved_by kind.StoreCapability None = false
is_moved_by _ (Some transfer) = false
is_moved_by _ None = true
