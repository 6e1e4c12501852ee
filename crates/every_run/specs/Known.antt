-- Addresses that lie in none of some ranges.
use Rattle.std.specs.Prelude.{ℕ, ◌+◌, ◌<◌, List, Contains}
use Rattle.reach.specs.declared.range.Range.{Range}
use Rattle.reach.specs.Ranges.{IsInOne}

-- the address lies in none of the ranges
abbrev pub IsOutside : List Range → ℕ → Type 0
IsOutside ranges a = IsInOne ranges a → ⊥

-- one of the ranges begins before the end of so many bytes from an address, and ends after their beginning
pub record TouchesOne (ranges : List Range) (address size : ℕ) : Type 0 where
  pub range : Range
  pub is_one : Contains ranges range
  pub low : range.from < address + size
  pub high : address < range.to
