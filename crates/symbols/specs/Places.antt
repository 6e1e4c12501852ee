-- Where the symbols of an address stand, by how many symbols stand from each of them on.
use Rattle.std.specs.Prelude.{◌≡◌, ℕ, suc, ◌==◌, if◌then◌else◌, List, [], ◌∷◌, ◌++◌, length, Option, Some, None}
use Rattle.std.specs.BTreeMap.{BTreeMap, get}
use Rattle.std.specs.Ordering.{nat_cmp}
use Rattle.symbols.specs.Symbols.{Symbol, names_among}

-- the first one
abbrev pub left_at : List Symbol → ℕ → Option ℕ
left_at [] address = None
left_at (s ∷ ss) address = if s.address == address then Some (suc (length ss)) else left_at ss address

abbrev pub IsPlacing : BTreeMap ℕ ℕ → List Symbol → Type 0
IsPlacing places symbols = (address : ℕ) → get nat_cmp places address ≡ left_at symbols address

-- of each symbol, the last one's before the others', the next one of its address
abbrev pub later_of : List Symbol → List (Option ℕ)
later_of [] = []
later_of (s ∷ ss) = later_of ss ++ (left_at ss s.address ∷ [])

-- the names of an address from one of its symbols on
abbrev pub names_from : List Symbol → ℕ → List (List ℕ)
names_from [] left = []
names_from (s ∷ ss) left = if suc (length ss) == left then s.name ∷ names_among ss s.address else names_from ss left

abbrev pub names_left : List Symbol → Option ℕ → List (List ℕ)
names_left symbols None = []
names_left symbols (Some left) = names_from symbols left
