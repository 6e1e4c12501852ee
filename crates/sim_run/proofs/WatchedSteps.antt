-- Of how many steps a watch is told at once.
use Rattle.std.proofs.Common.{◌≡◌, ℕ, ◌+◌, ◌-◌, ◌<◌, ◌≤◌, ◌^◌, Bool, true, false, List, [], ◌∷◌, append-nil, refl, arith}
use Rattle.std.proofs.lemmas.Bool.{eqb-false, ltb-true}
use Rattle.std.proofs.Math.Nat.{max-eq_left}
use Rattle.std.specs.Prelude.{◌==◌, ⊤, nat_lt, max, Option, Some, None, if◌then◌else◌, Result, Ok, Err, OnOk, OnErr, IfErr}
use Rattle.image.specs.Devices.{AppendsBeginning}
use Rattle.std.proofs.KnownBytes.{Appends-nil}
use Rattle.steps.specs.State.{State}
use Rattle.steps.specs.declared.event.Event.TheVariants.{Step}
use Rattle.schedules.specs.declared.pace.Pace.{Pace}
use Rattle.schedules.specs.declared.pace.Speed.TheVariants.{Any, Each, Short}
use Rattle.schedules.specs.Pace.{GoBy, most_of}
use Rattle.sim_run.specs.Lines.{CountsLine, calls_failed, lines_pace}
use Rattle.sim_run.specs.Trace.{Says, lines_past}
use Rattle.sim_run.specs.declared.traced.LineFault.{LineFault}
use Rattle.sim_run.specs.declared.notes.First.{First}
use Rattle.sim_run.specs.Watched.{counted_pace, watching_pace}

one_at_least : (n : ℕ) → 1 ≤ n → max n 1 ≡ n
one_at_least n some = max-eq_left some

module _ (k n : ℕ) where
  abbrev paced : Bool → Pace
  paced b = if b then record { speed = Any; most = k - n } else record { speed = Each; most = 18446744073709551615 }

  few_of : (m : ℕ) (s : State) (b : Bool) → nat_lt n k ≡ b → m ≤ most_of (paced b) → GoBy (paced b).speed m s → m ≤ k - n
  few_of m s true is few goes =
      let below = ltb-true n k is in
      let one = one_at_least (k - n) (omega (arith, below)) in
      omega (arith, few, one)
  few_of m s false is few goes = absurd goes

  -- of those that have no line, where lines are written from one on
  pub few_skipped : (m : ℕ) (s : State) → m ≤ most_of (lines_pace k n) → GoBy (lines_pace k n).speed m s → m ≤ k - n
  few_skipped m s = few_of m s (nat_lt n k) refl

-- the line of a step that has one
pub one_line : (says : Says) (k n : ℕ) (s : State) → (n < k → ⊥) → lines_past says (k - n) n (Step ∷ []) s ≡ says (n + 1) s
one_line says k n s past =
    let none : k - n ≡ 0 = omega (arith, past) in
    rw none (append-nil (says (n + 1) s))

-- of those before the number of a step has more than 64 bits
module _ (n : ℕ) where
  abbrev counted : Bool → Pace
  counted b =
      if b then record { speed = Short None; most = 18446744073709551615 - n } else record { speed = Each; most = 18446744073709551615 }

  few_counted_of : (m : ℕ) (s : State) (b : Bool) → nat_lt n 18446744073709551615 ≡ b → m ≤ most_of (counted b) → GoBy (counted b).speed m s
      → (n + m ≤ 18446744073709551615) × GoBy (Short None) m s
  few_counted_of m s true is few goes =
      let below = ltb-true n 18446744073709551615 is in
      let one = one_at_least (18446744073709551615 - n) (omega (arith, below)) in
      (omega (arith, below, few, one), goes)
  few_counted_of m s false is few goes = absurd goes

  pub few_counted : (m : ℕ) (s : State) → m ≤ most_of (counted_pace n) → GoBy (counted_pace n).speed m s
      → (n + m ≤ 18446744073709551615) × GoBy (Short None) m s
  few_counted m s = few_counted_of m s (nat_lt n 18446744073709551615) refl

-- of those where no trap is open
pub few_watched : (first : Option First) (n m : ℕ) (s : State) → m ≤ most_of (watching_pace first n)
    → GoBy (watching_pace first n).speed m s → (first ≡ None) × (n + m ≤ 18446744073709551615) × GoBy (Short None) m s
few_watched None n m s few goes =
    let known = few_counted n m s few goes in
    (refl, known.0, known.1)
few_watched (Some one) n m s few goes = absurd goes

-- a number of 64 bits that is not the greatest
pub not_last : (n : ℕ) → n < 2 ^ 64 → (n == 18446744073709551615) ≡ false → n < 2 ^ 64 - 1
not_last n fits is = go (λ same. eqb-false n 18446744073709551615 is same)
  where
    go : (n ≡ 18446744073709551615 → ⊥) → n < 2 ^ 64 - 1
    go apart = omega (arith, fits, apart)

-- ---- what a call of a sink left

pub on_written : {T A B : Type 0} (r : Result T LineFault) (o n : ℕ) → CountsLine o n r → OnOk r A → (A → n ≡ o → B) → OnOk r B
on_written (Ok x) o n count wrote next = next wrote count
on_written (Err e) o n count wrote next = tt

pub on_missed : {T A : Type 0} {B : LineFault → Type 0} (r : Result T LineFault) (o n : ℕ) → CountsLine o n r → OnErr r A
    → ((e : LineFault) → A → n ≡ o + calls_failed e → B e) → IfErr r B
on_missed (Ok x) o n count wrote next = tt
on_missed (Err e) o n count wrote next = next e wrote count

-- nothing is a beginning of a text
pub nothing_begun : (a : Option (List ℕ)) (text : List ℕ) → AppendsBeginning a a text
nothing_begun a text = (0, omega arith, Appends-nil a)

pub on_any : {T E : Type 0} (r : Result T E) → OnOk r ⊤
on_any (Ok x) = tt
on_any (Err e) = tt
