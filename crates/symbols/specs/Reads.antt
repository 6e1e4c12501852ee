-- How an answer speaks of a table: a fault that is the text's unless there was no memory, and labels as a map of names holds them.
use Rattle.std.specs.Prelude.{◌≡◌, ℕ, ◌+◌, ◌<◌, not, ◌==◌, List, length, map, take, drop, Option}
use Rattle.std.specs.Prelude.{Some}
use Rattle.std.specs.List.{prefix_len}
use Rattle.std.specs.declared.vec.Vec.{Vec}
use Rattle.symbols.specs.declared.table.SymbolsFault.{SymbolsFault}
use Rattle.symbols.specs.declared.table.SymbolsFault.TheVariants.{Line, Memory}
use Rattle.symbols.specs.Symbols.{Symbol, symbol}

abbrev pub IsFaultOf : Option ℕ → SymbolsFault → Type 0
IsFaultOf fault (Line number) = fault ≡ Some number
IsFaultOf fault Memory = Unit

-- where the first line feed of a text stands, or its length; and a text that is cut there
abbrev pub line_length : List ℕ → ℕ
line_length text = prefix_len (λ b. not (b == 10)) text

abbrev pub IsCut : List ℕ → List ℕ → List ℕ → Type 0
IsCut text line rest =
    (line_length text < length text) × (line ≡ take (line_length text) text) × (rest ≡ drop (line_length text + 1) text)

abbrev pub seen_entry : {A : Type 0} → Vec ℕ A × ℕ → Symbol
seen_entry e = symbol e.1 e.0.items

abbrev pub seen_entries : {A : Type 0} → List (Vec ℕ A × ℕ) → List Symbol
seen_entries entries = map seen_entry entries
