-- What a list of all rows is.
use Rattle.std.specs.Prelude.{◌≡◌, ℕ, List, Some, slice_get}
use Rattle.isa_rows.specs.declared.rows.Row.{Row}

-- each row stands in the list, at one place alone
abbrev pub HoldsEachRowOnce : List Row → Type 0
HoldsEachRowOnce rows =
    (row : Row) → (k : ℕ) × (slice_get rows k ≡ Some row) × ((j : ℕ) → slice_get rows j ≡ Some row → j ≡ k)
