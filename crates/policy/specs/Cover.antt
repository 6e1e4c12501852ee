-- Addresses that ranges leave out, and those that ranges share.
use Rattle.std.specs.Prelude.{ℕ, ◌<◌, ◌≤◌, List, Contains}
use Rattle.reach.specs.declared.range.Range.{Range}
use Rattle.reach.specs.Ranges.{IsIn, IsInOne}

-- an address from `from` on and below `to` lies in none of the ranges
pub record HasGap (ranges : List Range) (from to : ℕ) : Type 0 where
  pub address : ℕ
  pub low : from ≤ address
  pub high : address < to
  pub outside : IsInOne ranges address → ⊥

-- a range ends at an address from `from` on and below `to` that lies in none of the ranges
pub record IsSomeEndOut (ranges : List Range) (from to : ℕ) : Type 0 where
  pub range : Range
  pub is_one : Contains ranges range
  pub low : from ≤ range.to
  pub high : range.to < to
  pub outside : IsInOne ranges range.to → ⊥

-- two ranges share an address
pub record Overlap (x y : Range) : Type 0 where
  pub address : ℕ
  pub in_first : IsIn x address
  pub in_second : IsIn y address

-- one shares an address with one of these
pub record OverlapsOne (x : Range) (ys : List Range) : Type 0 where
  pub range : Range
  pub is_one : Contains ys range
  pub overlap : Overlap x range

-- one of the first does
pub record ShareSome (xs ys : List Range) : Type 0 where
  pub range : Range
  pub is_one : Contains xs range
  pub overlaps : OverlapsOne range ys

-- no address lies in ranges of both
abbrev pub ShareNone : List Range → List Range → Type 0
ShareNone xs ys = (a : ℕ) → IsInOne xs a → IsInOne ys a → ⊥
