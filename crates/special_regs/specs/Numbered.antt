-- Values by number.
use Rattle.std.specs.Prelude.{ℕ, ◌==◌, if◌then◌else◌, List, [], ◌∷◌, Option, Some, None}

-- what stands beside a number in a list, or none
abbrev pub value_at : {X : Type 0} → ℕ → List (ℕ × X) → Option X
value_at n [] = None
value_at n (entry ∷ entries) = if entry.0 == n then Some entry.1 else value_at n entries
