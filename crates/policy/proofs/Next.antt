-- The value of the next member.
use Rattle.std.proofs.Common.{◌≡◌, ℕ, zero, suc, ◌+◌, ◌<◌, List, [], ◌∷◌, drop, length, refl, arith}
use Rattle.std.specs.Prelude.{slice_index_or}
use Rattle.cap_bounds.specs.CapValue.{CapValue}
use Rattle.reached.specs.declared.member.Member.{Member}
use Rattle.reached.specs.Links.{values}

one_more : (k : ℕ) → suc k + 1 ≡ suc (k + 1)
one_more k = omega arith

pub drop_next : {X : Type 0} (value : X → CapValue) (ms : List (Member X)) (k : ℕ) (d : Member X) → k < length ms
    → drop k (values value ms) ≡ value (slice_index_or ms k d).cap ∷ drop (k + 1) (values value ms)
drop_next value [] k d h = absurd (omega arith)
drop_next value (m ∷ ms) zero d h = refl
drop_next value (m ∷ ms) (suc k) d h = rw (one_more k) (drop_next value ms k d (omega arith))
