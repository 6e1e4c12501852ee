-- Ranges while they are merged, in the order of their beginnings.
use Rattle.std.specs.Prelude.{ℕ, ◌-◌, ◌<◌, ◌≤◌, List, length, All}
use Rattle.std.specs.List.{HoldsAt}
use Rattle.reach.specs.declared.range.Range.{Range}

-- all begin at an address or below it
abbrev pub AreBegunBy : ℕ → List Range → Type 0
AreBegunBy a ranges = All (λ range. range.from ≤ a) ranges

-- the last range ends at an address or above it
pub record LastReaches (ranges : List Range) (a : ℕ) : Type 0 where
  pub some : 0 < length ranges
  pub last : HoldsAt (λ range. a ≤ range.to) ranges (length ranges - 1)
