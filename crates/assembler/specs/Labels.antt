-- Labels as a map of names holds them.
use Rattle.std.specs.Prelude.{ℕ, List, map}
use Rattle.std.specs.declared.vec.Vec.{Vec}
use Rattle.assembler.specs.Places.{Symbols}

abbrev pub seen_entries : {A : Type 0} → List (Vec ℕ A × ℕ) → Symbols
seen_entries entries = map (λ e. (e.0.items, e.1)) entries
