-- What the slower of two paces says to each of two watches.
use Rattle.std.proofs.Common.{◌≡◌, ◌≤◌, ℕ, Bool, true, false, refl, sym, arith}
use Rattle.std.proofs.lemmas.Bool.{eqb-true}
use Rattle.std.specs.Prelude.{Option, Some, None, ◌==◌, ◌||◌, if◌then◌else◌}
use Rattle.steps.specs.State.{State}
use Rattle.steps.specs.Steps.{GoesBy}
use Rattle.schedules.specs.declared.pace.Pace.{Pace}
use Rattle.schedules.specs.declared.pace.Speed.{Speed}
use Rattle.schedules.specs.declared.pace.Speed.TheVariants.{Each, Short, Any}
use Rattle.schedules.specs.Pace.{GoBy, most_of, slower, slower_speed}

no_stop_goes : (stop : Option ℕ) (s : State) → GoesBy stop s → GoesBy None s
no_stop_goes stop s goes = record { running = goes.running; elsewhere = tt; plain = goes.plain }

same_stop : (a b n : ℕ) (s : State) (same : Bool) → (a == b) ≡ same → GoBy (if same then Short (Some a) else Each) n s
    → GoBy (Short (Some a)) n s × GoBy (Short (Some b)) n s
same_stop a b n s true is goes = (goes, rw (sym (eqb-true a b is)) goes)
same_stop a b n s false is goes = absurd goes

pub speeds : (p q : Speed) (n : ℕ) (s : State) → GoBy (slower_speed p q) n s → GoBy p n s × GoBy q n s
speeds Each q n s goes = absurd goes
speeds Any q n s goes = (tt, goes)
speeds (Short stop) Each n s goes = absurd goes
speeds (Short stop) Any n s goes = (goes, tt)
speeds (Short None) (Short other) n s goes = (λ k below. no_stop_goes other _ (goes k below), goes)
speeds (Short (Some a)) (Short None) n s goes = (goes, λ k below. no_stop_goes (Some a) _ (goes k below))
speeds (Short (Some a)) (Short (Some b)) n s goes = same_stop a b n s (a == b) refl goes

-- what is few for the slower of two is few for each
pub few_of_first : (p q : Pace) (n : ℕ) → n ≤ most_of (slower p q) → n ≤ most_of p
few_of_first p q n few = omega (arith, few)

pub few_of_second : (p q : Pace) (n : ℕ) → n ≤ most_of (slower p q) → n ≤ most_of q
few_of_second p q n few = omega (arith, few)

pub neither : (a b : Bool) → a || b ≡ false → (a ≡ false) × (b ≡ false)
neither false false e = (refl, refl)
neither true b e = cc
neither false true e = cc
