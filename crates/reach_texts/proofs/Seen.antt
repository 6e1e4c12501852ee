-- Members as they are seen.
use Rattle.std.proofs.Common.{◌≡◌, ℕ, zero, suc, ◌+◌, ◌<◌, List, [], ◌∷◌, length, get_or, refl, ap, sym, arith}
use Rattle.std.proofs.lemmas.List.{length-map}
use Rattle.std.specs.List.{position, position_or_len}
use Rattle.std.specs.Prelude.{Bool, not, if◌then◌else◌, Some, slice_get, option_map}
use Rattle.cap_bounds.specs.CapValue.{CapValue}
use Rattle.reached.specs.declared.member.Member.{Member}
use Rattle.reached.specs.Links.{values}
use Rattle.reached.specs.Order.{Found, seen_member, seen_members}
use Rattle.reach_texts.specs.Asked.{values_of}

-- the member of a number as it is seen
pub seen_at : {X : Type 0} (value : X → CapValue) (xs : List (Member X)) (k : ℕ)
    → slice_get (seen_members value xs) k ≡ option_map (seen_member value) (slice_get xs k)
seen_at value [] k = refl
seen_at value (x ∷ xs) zero = refl
seen_at value (x ∷ xs) (suc k) = seen_at value xs k

pub seen_here : {X : Type 0} (value : X → CapValue) (xs : List (Member X)) (k : ℕ) (x : Member X) → k < length xs → x ≡ get_or xs k x
    → slice_get (seen_members value xs) k ≡ Some (seen_member value x)
seen_here value [] k x inside is = absurd (omega arith)
seen_here value (y ∷ xs) zero x inside is = ap (λ m. Some (seen_member value m)) (sym is)
seen_here value (y ∷ xs) (suc k) x inside is = seen_here value xs k x (omega arith) is

pub seen_length : {X : Type 0} (value : X → CapValue) (ms : List (Member X)) → length (seen_members value ms) ≡ length ms
seen_length value ms = length-map ms (seen_member value)

pub seen_values : {X : Type 0} (value : X → CapValue) (ms : List (Member X)) → values_of (seen_members value ms) ≡ values value ms
seen_values value [] = refl
seen_values value (m ∷ ms) = ap (λ vs. value m.cap ∷ vs) (seen_values value ms)

-- which one passes a test first
module _ {X : Type 0} (value : X → CapValue) (test : Found → Bool) where
  place : (ms : List (Member X)) → position_or_len test (seen_members value ms) ≡ position_or_len (λ m. test (seen_member value m)) ms
  place [] = refl
  place (m ∷ ms) = ap (λ n. if not (test (seen_member value m)) then 1 + n else 0) (place ms)

  pub seen_position : (ms : List (Member X)) → position test (seen_members value ms) ≡ position (λ m. test (seen_member value m)) ms
  seen_position ms = rw (place ms, seen_length value ms) refl
