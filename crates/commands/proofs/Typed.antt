-- Bytes after those that a schedule has room for change nothing of a run.
use Rattle.std.specs.Prelude.{◌≡◌, ◌≤◌, ◌<◌, ℕ, zero, suc, ◌+◌, ◌-◌, ◌*◌, ◌/◌, List, [], ◌∷◌, take, slice_get, Option, None, Some, IfSome}
use Rattle.std.specs.Prelude.{refl}
use Rattle.std.proofs.Common.{arith, ap, inl, inr}
use Rattle.std.proofs.lemmas.Bool.{cases_lt}
use Rattle.std.proofs.Math.Nat.{div-mul-le_self}
use Rattle.steps.specs.State.{State}
use Rattle.schedules.specs.declared.schedule.Schedule.{Schedule}
use Rattle.schedules.specs.Schedule.{byte_before, first_steps, scheduled, up_to_halt}

pub slice_get-take : (m : ℕ) (xs : List ℕ) (i : ℕ) → i < m → slice_get (take m xs) i ≡ slice_get xs i
slice_get-take zero xs i below = absurd (omega (arith, below))
slice_get-take (suc m) [] i below = refl
slice_get-take (suc m) (x ∷ xs) zero below = refl
slice_get-take (suc m) (x ∷ xs) (suc i) below = slice_get-take m xs i (omega (arith, below))

pub byte_before-take : (schedule : Schedule) (m : ℕ) (xs : List ℕ) (step : ℕ) → 1 ≤ schedule.gap → 1 ≤ step → step ≤ schedule.steps
    → ((i : ℕ) → m ≤ i → schedule.steps < 1 + i * schedule.gap) → byte_before schedule (take m xs) step ≡ byte_before schedule xs step
unfolding byte_before
byte_before-take schedule m xs step gap some few unused =
    let i = (step - 1) / schedule.gap in
    let fits : i * schedule.gap ≤ step - 1 = div-mul-le_self (step - 1) schedule.gap in
    let used : i < m = elim (cases_lt i m) [
      | inl below ↦ below
      | inr above ↦ absurd (omega (arith, unused i above, fits, some, few))
    ] in
    rw (slice_get-take m xs i used) refl

pub first_steps-same : (schedule : Schedule) (xs ys : List ℕ) (n : ℕ)
    → ((step : ℕ) → 1 ≤ step → step ≤ n → byte_before schedule xs step ≡ byte_before schedule ys step)
    → first_steps schedule xs n ≡ first_steps schedule ys n
first_steps-same schedule xs ys zero same = refl
first_steps-same schedule xs ys (suc n) same =
    let before = first_steps-same schedule xs ys n (λ step some few. same step some (omega (arith, few))) in
    rw (before, same (n + 1) (omega arith) (omega arith)) refl

-- the bytes that are read make the same run as all
pub scheduled-take : (schedule : Schedule) (m : ℕ) (xs : List ℕ) → 1 ≤ schedule.gap
    → ((i : ℕ) → m ≤ i → schedule.steps < 1 + i * schedule.gap)
    → (s : State) → scheduled schedule (take m xs) s ≡ scheduled schedule xs s
scheduled-take schedule m xs gap unused s =
    ap (λ events. up_to_halt events s)
    (first_steps-same schedule (take m xs) xs schedule.steps (λ step some few. byte_before-take schedule m xs step gap some few unused))

pub typed-take : (schedule : Schedule) (m : ℕ) (known : Option (List ℕ)) (typed : List ℕ) → 1 ≤ schedule.gap
    → ((i : ℕ) → m ≤ i → schedule.steps < 1 + i * schedule.gap) → IfSome known (λ input. typed ≡ take m input)
    → IfSome known (λ input. (s : State) → scheduled schedule typed s ≡ scheduled schedule input s)
typed-take schedule m None typed gap unused part = tt
typed-take schedule m (Some input) typed gap unused part = λ s. rw part (scheduled-take schedule m input gap unused s)

pub typed-all : (schedule : Schedule) (known : Option (List ℕ)) (typed : List ℕ) → IfSome known (λ input. typed ≡ input)
    → IfSome known (λ input. (s : State) → scheduled schedule typed s ≡ scheduled schedule input s)
typed-all schedule None typed all = tt
typed-all schedule (Some input) typed all = λ s. ap (λ bytes. scheduled schedule bytes s) all
