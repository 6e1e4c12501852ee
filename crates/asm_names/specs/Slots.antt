-- The operands that each row is written with, in order.
use Rattle.std.specs.Prelude.{List}
use Rattle.isa_rows.specs.declared.rows.Row.{Row}
use Rattle.isa_rows.specs.declared.slots.Slot.{Slot}
use Rattle.isa_rows.specs.Line.{line_of}

abbrev pub slots_of : Row → List Slot
slots_of row = (line_of row).slots
