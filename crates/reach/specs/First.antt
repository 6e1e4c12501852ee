-- The first value of which something holds.
use Rattle.std.specs.Prelude.{ℕ, ◌<◌, List, length, Contains}
use Rattle.std.specs.List.{HoldsAt}
use Rattle.cap_bounds.specs.CapValue.{CapValue}

-- it holds of the value at the place, and of none before
pub record IsFirst (P : CapValue → Type 0) (vs : List CapValue) (place : ℕ) : Type 0 where
  pub inside : place < length vs
  pub here : HoldsAt P vs place
  pub before : (k : ℕ) → k < place → HoldsAt (λ v. P v → ⊥) vs k

-- it holds of none of the values
abbrev pub HoldsOfNone : (CapValue → Type 0) → List CapValue → Type 0
HoldsOfNone P vs = (v : CapValue) → Contains vs v → P v → ⊥
