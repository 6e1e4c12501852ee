-- What a step writes at a place, by the parts in which the code finds it.
use Rattle.std.specs.Prelude.{Bool, false, ◌||◌, Option, Some, None}
use Rattle.cap_bounds.specs.CapValue.{is_tagged}
use Rattle.origins.specs.declared.place.Place.{Place}
use Rattle.steps.specs.State.{State}
use Rattle.isa_rows.specs.declared.operands.Insn.{Insn}
use Rattle.origins.specs.Making.{source}
use Rattle.origins.specs.Places.{held}
use Rattle.origins.specs.Search.{is_tagged_at}
use Rattle.origins.specs.declared.making.Making.{Making}

-- what is made where an instruction is fetched
abbrev pub by_insn : Option Insn → (Insn → Option Making) → Option Making
by_insn (Some insn) made = made insn
by_insn None made = None

-- whether what is written at a place replaces something tagged, or is made of it
abbrev pub had_tag : Place → Option Making → State → Bool
had_tag place (Some making) s = is_tagged (held place s) || is_tagged_at (source making) s
had_tag place None s = false
