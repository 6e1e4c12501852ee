-- Texts that are read up to a limit; and the lines of policies' rules.
use Rattle.std.proofs.Common.{◌≡◌, ℕ, zero, suc, ◌+◌, ◌<◌, ◌≤◌, List, [], ◌∷◌, length, take, get_or, refl, sym, ap, subst, arith}
use Rattle.std.specs.Prelude.{Option, Some, None, IfSome}
use Rattle.std.specs.List.{HoldsAt}
use Rattle.cap_bounds.specs.CapValue.{CapValue}
use Rattle.reach.specs.First.{IsFirst}
use Rattle.steps.specs.declared.event.Event.{Event}
use Rattle.steps.specs.declared.event.Event.TheVariants.{Step, Tick, Byte}
use Rattle.steps.specs.Event.{after}
use Rattle.steps.specs.State.{State, pc_of}
use Rattle.policy.specs.Terms.{Terms}
use Rattle.policy.specs.Watch.{values_in}
use Rattle.policy.specs.Lending.{in_force_after, in_force_from, next_door}
use Rattle.policy.proofs.Forced.{each-length}

pub some-weaker : {A : Type 0} (o : Option A) (P Q : A → Type 0) → ((a : A) → P a → Q a) → IfSome o P → IfSome o Q
some-weaker None P Q weaker holds = tt
some-weaker (Some a) P Q weaker holds = weaker a holds

take-nil : (n : ℕ) → take {A = ℕ} n [] ≡ []
take-nil zero = refl
take-nil (suc n) = refl

-- what is shorter than what was asked for is all of it
all-taken : (most : ℕ) (bytes : List ℕ) → length (take (suc most) bytes) ≤ most → take (suc most) bytes ≡ bytes
all-taken most [] short = take-nil (suc most)
all-taken zero (b ∷ bs) short = absurd (omega (arith, short))
all-taken (suc most) (b ∷ bs) short = ap (λ t. b ∷ t) (all-taken most bs (omega (arith, short)))

pub all-read : (most : ℕ) (bytes : List ℕ) → length (take (most + 1) bytes) ≤ most → take (most + 1) bytes ≡ bytes
all-read most bytes =
    let next : suc most ≡ most + 1 = omega arith in
    subst (λ n. length (take n bytes) ≤ most → take n bytes ≡ bytes) next (all-taken most bytes)

pub taken-short : (most : ℕ) (bytes : List ℕ) → length (take most bytes) ≤ length bytes
taken-short zero bytes = omega arith
taken-short (suc most) [] = omega arith
taken-short (suc most) (b ∷ bs) = let few = taken-short most bs in omega arith

-- the member that breaks a rule is one of those that are reachable
module _ (P : Terms → CapValue → Type 0) (vs : List CapValue) (member : ℕ) where
  pub member-inside : (rules : List Terms) (k : ℕ) → k < length rules → HoldsAt (λ rule. IsFirst (P rule) vs member) rules k
      → member < length vs
  member-inside [] k inside first = absurd (omega (arith, inside))
  member-inside (rule ∷ rules) k inside first = (first rule).inside

-- as many are in force as are said
forced-length : (said now : List Terms) (e : Event) (s : State) → length said ≡ length now
    → length said ≡ length (in_force_after said now e s)
forced-length said now Step s same = sym (each-length (values_in s) (pc_of s) (next_door s) said now same)
forced-length said now Tick s same = same
forced-length said now (Byte b) s same = same

pub in_force-length : (said now : List Terms) (es : List Event) (s : State) → length said ≡ length now
    → length said ≡ length (in_force_from said now es s)
in_force-length said now [] s same = same
in_force-length said now (e ∷ es) s same =
    in_force-length said (in_force_after said now e s) es (after e s) (forced-length said now e s same)

-- an element that there is, is the same whatever stands for one that there isn't
pub same-element : (xs : List ℕ) (k d e : ℕ) → k < length xs → get_or xs k d ≡ get_or xs k e
same-element [] k d e inside = absurd (omega (arith, inside))
same-element (x ∷ xs) zero d e inside = refl
same-element (x ∷ xs) (suc k) d e inside = same-element xs k d e (omega (arith, inside))
