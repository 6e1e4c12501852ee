-- Ranges of numbers, addresses or object types, and those that members open.
use Rattle.std.specs.Prelude.{ℕ, ◌+◌, ◌<◌, ◌≤◌, Bool, not, ◌&&◌, nat_lt, if◌then◌else◌, min, max, List, [], ◌∷◌, length, All, Contains}
use Rattle.std.specs.Prelude.{slice_index_or}
use Rattle.cap_bounds.specs.CapValue.{CapValue, is_sealed, value_base, value_top}
use Rattle.cap_rights.specs.declared.permission.Permission.TheVariants as permission
use Rattle.cap_rights.specs.Permission.{permits}
use Rattle.reach.specs.declared.range.Range.{Range}
use Rattle.reach.specs.declared.right.Right.{Right}
use Rattle.reach.specs.declared.right.Right.TheVariants.{Store, Load, Execute, Capabilities, Keep, Seal, Unseal}
use Rattle.reach.specs.Opens.{Opens}

-- the number lies in the range
pub record IsIn (range : Range) (a : ℕ) : Type 0 where
  pub low : range.from ≤ a
  pub high : a < range.to

-- it lies in one of the ranges
pub record IsInOne (ranges : List Range) (a : ℕ) : Type 0 where
  pub range : Range
  pub is_one : Contains ranges range
  pub inside : IsIn range a

-- one of the values opens the number
pub record IsOpen (right : Right) (vs : List CapValue) (a : ℕ) : Type 0 where
  pub value : CapValue
  pub is_one : Contains vs value
  pub opens : Opens right value a

-- none is empty
abbrev pub AreFilled : List Range → Type 0
AreFilled ranges = All (λ range. range.from < range.to) ranges

-- Ascending and apart: none is empty, and each ends before the next begins, with a number between.
pub record AreApart (ranges : List Range) : Type 0 where
  pub filled : AreFilled ranges
  pub gaps : (k : ℕ) (d : Range) → k + 1 < length ranges → (slice_index_or ranges k d).to < (slice_index_or ranges (k + 1) d).from

-- ---- the ranges of some values, as a list

-- the least range that has two
abbrev pub joined : Range → Range → Range
joined r q = record { from = min r.from q.from; to = max r.to q.to }

-- puts a range into ascending ranges that are apart: joined with each that it meets or touches
abbrev pub put_range : Range → List Range → List Range
put_range r [] = r ∷ []
put_range r (q ∷ qs) =
    if nat_lt r.to q.from then r ∷ q ∷ qs else (if nat_lt q.to r.from then q ∷ put_range r qs else put_range (joined r q) qs)

-- whether a value has the permissions of a right
abbrev pub permits_right : Right → CapValue → Bool
permits_right Store c = permits c permission.Store
permits_right Load c = permits c permission.Load
permits_right Execute c = permits c permission.Execute
permits_right Capabilities c = permits c permission.Load && permits c permission.LoadCapability
permits_right Keep c =
    permits c permission.Store && (permits c permission.StoreCapability && permits c permission.StoreLocalCapability)
permits_right Seal c = permits c permission.Seal
permits_right Unseal c = permits c permission.Unseal

-- whether a value opens some number to a right: unsealed, with the permissions, and its bounds aren't empty
abbrev pub opens_any : Right → CapValue → Bool
opens_any right c = (not (is_sealed c) && permits_right right c) && nat_lt (value_base c) (value_top c)

-- the numbers in a value's bounds
abbrev pub bounds_of : CapValue → Range
bounds_of c = record { from = value_base c; to = value_top c }

-- the numbers that values open to a right: ranges in ascending order and apart
unfoldable pub ranges_of : Right → List CapValue → List Range
ranges_of right [] = []
ranges_of right (v ∷ vs) = if opens_any right v then put_range (bounds_of v) (ranges_of right vs) else ranges_of right vs
