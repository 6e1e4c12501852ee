-- What a plain capability stands for.
use Rattle.cap_bounds.specs.CapValue.{CapValue, Cap, Data, IsSound}
use Rattle.cap_bounds.specs.Record.{Record, record_with}
use Rattle.cap_bounds.specs.declared.capability.Capability.{Capability}
use Rattle.cap_bounds.specs.declared.plain_cap.PlainCap.{PlainCap}
use Rattle.cap_bounds.specs.declared.plain_cap.PlainCap.TheVariants.{Tagged, Untagged}

-- a capability's bounds and fields
abbrev pub record_of : Capability → Record
record_of c = record_with c.base c.top c.address c.perms c.flag c.otype

abbrev pub plain_value : PlainCap → CapValue
plain_value (Tagged c) = Cap (record_of c)
plain_value (Untagged w) = Data w.bits

-- it is sound by what its parts keep
pub plain_sound : (c : PlainCap) → IsSound (plain_value c)
plain_sound (Tagged c) = c.well_formed
plain_sound (Untagged w) = w.in_range
