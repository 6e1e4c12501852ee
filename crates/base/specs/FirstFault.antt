-- Ordered lists of conditions: the fault is that of the first condition that is false.
use Rattle.std.specs.Prelude.{Bool, if◌then◌else◌, List, [], ◌∷◌, Option, Some, None, Result, Ok, Err}

abbrev pub first_fault : {F : Type 0} → List (Bool × F) → Option F
first_fault [] = None
first_fault (check ∷ checks) = if check.0 then first_fault checks else Some check.1

-- the answer, unless there is a fault
abbrev pub unless : {F X : Type 0} → Option F → X → Result X F
unless None x = Ok x
unless (Some fault) x = Err fault
