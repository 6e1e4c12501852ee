-- What ties a mark of the code to a mark of the definitions. No definition of a session needs this.
use Rattle.std.specs.Prelude.{Bool, List, map}
use Rattle.cap_bounds.specs.CapValue.{CapValue}
use Rattle.debugger.specs.Stops.{Ends, Mark, at, ends, trap, other_value, other_bytes}
use Rattle.debugger.specs.declared.marks.Mark.{Mark as Kept}
use Rattle.debugger.specs.declared.marks.Mark.TheVariants as kept

-- a mark over values, from one over what stands for them
abbrev pub seen_mark : {C : Type 0} → (C → CapValue) → Kept C → Mark
seen_mark value (kept.At address) = at address
seen_mark value kept.Trap = trap
seen_mark value (kept.OtherValue place v) = other_value place (value v)
seen_mark value (kept.OtherBytes address bytes) = other_bytes address bytes.items

abbrev pub seen : {C : Type 0} → (C → CapValue) → List (Kept C) → List Mark
seen value marks = map (seen_mark value) marks

-- where steps end: at some marks, and, where it says so, before a trap whose entry can't be fetched
abbrev pub ends_at : {C : Type 0} → (C → CapValue) → List (Kept C) → Bool → Ends
ends_at value marks unfetched = ends (seen value marks) unfetched
