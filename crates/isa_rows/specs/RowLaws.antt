-- The place of each row in the table.
use Rattle.std.proofs.Common.{◌≡◌, ℕ, zero, suc, ◌+◌, Bool, true, false, ◌==◌, ◌&&◌, List, [], ◌∷◌, Some, refl, arith}
use Rattle.std.specs.Prelude.{slice_get}
use Rattle.std.proofs.lemmas.Bool.Decides.{nat_tests}
use Rattle.isa_rows.specs.declared.rows.Row.{Row}
use Rattle.isa_rows.specs.declared.rows.Row.TheVariants.{Lui}
use Rattle.isa_rows.specs.declared.table.TheConstants.{ROWS}
use Rattle.isa_rows.specs.Line.{line_of}

-- the first place of a value among those of some rows, or their number
abbrev place_of : ℕ → List Row → ℕ
place_of value [] = 0
place_of value (row ∷ rows) = elim ((line_of row).value == value) [ true ↦ 0 | false ↦ place_of value rows + 1 ]

-- the place of a row in the table: no two rows have one value
unfoldable pub number_of : Row → ℕ
number_of row = place_of (line_of row).value ROWS

abbrev pub is_numbered : ℕ → List Row → Bool
is_numbered k [] = true
is_numbered k (row ∷ rows) = (number_of row == k) && is_numbered (k + 1) rows

-- a row that stands in a numbered list stands at its number
pub numbered-at : (rows : List Row) (k j : ℕ) (row : Row) → is_numbered k rows ≡ true → slice_get rows j ≡ Some row → number_of row ≡ k + j
numbered-at [] k j row h e = cc
numbered-at (r ∷ rows) k zero row h e = grind (arith, nat_tests)
numbered-at (r ∷ rows) k (suc j) row h e =
    let rest : is_numbered (k + 1) rows ≡ true = grind (arith, nat_tests) in
    omega (arith, numbered-at rows (k + 1) j row rest e)

pub all_numbered : is_numbered 0 ROWS ≡ true
unfolding number_of line_of
all_numbered = refl

pub ROWS-number_of : (row : Row) → slice_get ROWS (number_of row) ≡ Some row
unfolding number_of line_of
ROWS-number_of Lui = refl
ROWS-number_of _ = refl
