-- The counts of the steps among some events, and among more after them.
use Rattle.std.specs.Prelude.{◌≡◌, ℕ, suc, List, [], ◌∷◌, ◌++◌, length, cond, ◌==◌}
use Rattle.std.proofs.Common.{refl, ap, subst, arith}
use Rattle.std.proofs.lemmas.List.Sums.{sum_by-append}
use Rattle.std.specs.BTreeMap.{BTreeMap}
use Rattle.steps.specs.declared.event.Event.{Event}
use Rattle.steps.specs.declared.event.Event.TheVariants.{Step, Tick, Byte}
use Rattle.steps.specs.Event.{after}
use Rattle.steps.specs.State.{State, pc_of}
use Rattle.machine.specs.Run.{run_after}
use Rattle.schedules.specs.Schedule.{steps_in}
use Rattle.symbols.specs.Symbols.{Symbol}
use Rattle.sim_run.specs.Profile.{count_at, fetches, place_of}
use Rattle.sim_run.specs.Counts.{CountsMore}

pub fetches-append : (xs ys : List Event) (s : State) → fetches (xs ++ ys) s ≡ fetches xs s ++ fetches ys (run_after xs s)
fetches-append [] ys s = refl
fetches-append (Step ∷ xs) ys s = ap (λ addresses. pc_of s ∷ addresses) (fetches-append xs ys (after Step s))
fetches-append (Tick ∷ xs) ys s = fetches-append xs ys (after Tick s)
fetches-append (Byte b ∷ xs) ys s = fetches-append xs ys (after (Byte b) s)

-- an address for each step
pub length_fetches : (xs : List Event) (s : State) → length (fetches xs s) ≡ steps_in xs
length_fetches [] s = refl
length_fetches (Step ∷ xs) s = ap suc (length_fetches xs (after Step s))
length_fetches (Tick ∷ xs) s = length_fetches xs (after Tick s)
length_fetches (Byte b ∷ xs) s = length_fetches xs (after (Byte b) s)

pub counts_none : (symbols : List Symbol) (tally : BTreeMap ℕ ℕ) → CountsMore symbols [] tally tally
counts_none symbols tally = record { sound = λ sound. sound; counts = λ place. omega arith }

-- of a watch, whose table stays
pub counts_more : (xs ys : List Event) (s : State) (t t' : List Symbol) (a b c : BTreeMap ℕ ℕ) → t' ≡ t
    → CountsMore t (fetches xs s) a b → CountsMore t' (fetches ys (run_after xs s)) b c → CountsMore t (fetches (xs ++ ys) s) a c
counts_more xs ys s t t' a b c same first later =
    let more = subst (λ u. CountsMore u (fetches ys (run_after xs s)) b c) same later in
    record {
      sound = λ sound. more.sound (first.sound sound);
      counts = λ place.
          let one = first.counts place in
          let two = more.counts place in
          let parts = sum_by-append (λ address. cond (place_of t address == place) 1 0) (fetches xs s) (fetches ys (run_after xs s)) in
          let all = ap (λ addresses. count_at t addresses place) (fetches-append xs ys s) in
          omega (arith, one, two, parts, all);
    }
