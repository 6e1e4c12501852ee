-- Addresses by their labels: a name at an address or fewer than 4096 bytes below it.
use Rattle.std.specs.Prelude.{ℕ, ◌-◌, ◌==◌, nat_lt, if◌then◌else◌, List, [], ◌++◌, Option, Some, None, codes, decimal}
use Rattle.texts.specs.Hex.{hex_of}
use Rattle.symbols.specs.Symbols.{Symbol, nearest}

-- a table that may be left out
abbrev pub table_of : Option (List Symbol) → List Symbol
table_of None = []
table_of (Some symbols) = symbols

-- a name and the distance from it
unfoldable pub distance_text : List ℕ → ℕ → List ℕ
distance_text name distance =
    if distance == 0 then codes " <" ++ name ++ codes ">"
    else (if nat_lt distance 4096 then codes " <" ++ name ++ codes "+" ++ decimal distance ++ codes ">" else [])

abbrev pub place_text : Option Symbol → ℕ → List ℕ
place_text None address = []
place_text (Some s) address = distance_text s.name (address - s.address)

-- what stands after an address where there is a table of symbols, as ` <loop+4>`
unfoldable pub label_of : List Symbol → ℕ → List ℕ
label_of symbols address = place_text (nearest symbols address) address

-- an address with its label
unfoldable pub labelled : List Symbol → ℕ → List ℕ
labelled symbols address = hex_of 16 address ++ label_of symbols address
