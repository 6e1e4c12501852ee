-- The step that a run stops before, among the events of a schedule.
use Rattle.std.proofs.Common.{◌≡◌, ℕ, zero, suc, ◌+◌, ◌-◌, ◌<◌, ◌≤◌, Bool, true, false, List, [], ◌∷◌, ◌++◌, replicate, refl, sym, ap, ◌∙◌}
use Rattle.std.proofs.Common.{append-nil, subst, arith}
use Rattle.std.specs.Prelude.{◌&&◌, if◌then◌else◌, Option, Some, None, is_some, map, option_to_list}
use Rattle.base.specs.declared.fault.Fault.{Fault}
use Rattle.steps.specs.declared.event.Event.{Event}
use Rattle.steps.specs.declared.event.Event.TheVariants.{Step, Tick, Byte}
use Rattle.steps.specs.declared.effect.Effect.TheVariants as effect
use Rattle.steps.specs.Effect.{applied}
use Rattle.steps.specs.Event.{after, outcome}
use Rattle.steps.specs.Outcome.{is_trap}
use Rattle.steps.specs.State.{State, pc_of}
use Rattle.steps.specs.Step.{step_effect}
use Rattle.steps.specs.Steps.{GoesBy}
use Rattle.special_regs.specs.Traps.{trapped_scrs}
use Rattle.machine.specs.Run.{run_after}
use Rattle.schedules.specs.declared.schedule.Schedule.{Schedule}
use Rattle.schedules.specs.Pace.{GoBy}
use Rattle.schedules.specs.Schedule.{byte_before, events_before, first_steps, is_halted, scheduled, steps_in, up_to_halt}
use Rattle.schedules.proofs.Events.{first_are_met}
use Rattle.symbols.specs.Symbols.{Symbol}
use Rattle.sim_run.specs.Ending.{trap_words}
use Rattle.sim_run.specs.declared.notes.First.{First}
use Rattle.sim_run.specs.declared.notes.Level.{Level}
use Rattle.sim_run.specs.declared.stopping.StopAt.{StopAt}
use Rattle.sim_run.specs.declared.stopping.StopAt.TheVariants.{Unfetched, Violation, Double}
use Rattle.sim_run.specs.Stopped.{stop_pace, IsOnly, Knows, PassesStops, Searched}
use Rattle.sim_run.specs.Stopping.{first_stop, is_asked, is_stop, up_to_stop}
use Rattle.sim_run.specs.Unhandled.{Open, Traps, after_step, gone_on, is_at, is_return, level_left, no_traps, opened, returned, traps_after}
use Rattle.sim_run.specs.Watched.{trap_in, IsOpen}
use Rattle.sim_run.proofs.LeftTraps.{after-trap, all_handled, is-taken, none-taken, trap-of, trap-taken, traps}

-- ---- one step

module _ (at : StopAt) (is_open : Bool) (s : State) (running : is_halted s ≡ false) where
  -- one that is a trap
  pub stop-trapped : (f : Fault) (asked : Bool) → trap_in (step_effect s) ≡ Some f → asked ≡ is_asked at is_open (after Step s)
      → asked ≡ is_stop at is_open s
  unfolding is_stop
  stop-trapped f asked is same = rw (traps s running, is) same

  pub stop-untrapped : trap_in (step_effect s) ≡ None → false ≡ is_stop at is_open s
  unfolding is_stop
  stop-untrapped is = rw (traps s running, is) refl

stop-plain : (at : StopAt) (is_open : Bool) (stop : Option ℕ) (s : State) → GoesBy stop s → is_stop at is_open s ≡ false
unfolding is_stop
stop-plain at is_open stop s goes =
    let plain : is_trap (outcome Step s) ≡ false = ap is_trap goes.plain in
    rw plain refl

plain_passes : (at : StopAt) (stop : Option ℕ) (n k : ℕ) (left : Traps) (s : State)
    → ((j : ℕ) → j < k → GoesBy stop (run_after (replicate j Step) s)) → PassesStops at n left (replicate k Step) s
plain_passes at stop n zero left s goes = tt
plain_passes at stop n (suc k) left s goes = (
  stop-plain at (is_some left.first) stop s (goes 0 (omega arith)),
  plain_passes at stop (n + 1) k (after_step (n + 1) s left) (after Step s) (λ j below. goes (suc j) (omega (arith, below))),
)

only-none : (only : Option Open) → IsOnly None only → only ≡ None
only-none None known = refl
only-none (Some one) known = absurd known

known-none : (at : StopAt) (left : Traps) → (at ≡ Double → left.first ≡ None) → Knows at None left
known-none Unfetched left none = tt
known-none Violation left none = tt
known-none Double left none = rw (none refl) tt

none-known : (at : StopAt) (left : Traps) → Knows at None left → at ≡ Double → left.first ≡ None
none-known Unfetched left known is = cc
none-known Violation left known is = cc
none-known Double left known is = only-none left.first known

-- plain steps, where no trap is open
pub plain_searched : (at : StopAt) (only : Option First) (k : ℕ) (s : State) → 1 ≤ k → GoBy (stop_pace only).speed k s
    → Searched at only only (replicate k Step) s
plain_searched at None k s some goes = λ n left known. (
  plain_passes at None n k left s goes,
  known-none at (traps_after n left (replicate k Step) s)
      (λ is. ap (λ (t : Traps). t.first) (sym (all_handled None n k s left (none-known at left known is) some goes))),
)
plain_searched at (Some one) k s some goes = absurd goes

-- ---- a step before which the search didn't stop

-- what is known of the trap that is open says whether one is
pub stop-known : (at : StopAt) (only : Option First) (left : Traps) (s : State) → Knows at only left
    → is_stop at (is_some left.first) s ≡ is_stop at (is_some only) s
unfolding is_stop
stop-known Unfetched only left s known = refl
stop-known Violation only left s known = refl
stop-known Double only left s known = ap (λ b. is_trap (outcome Step s) && b) (go only left.first known)
  where
    go : (first : Option First) (one : Option Open) → IsOnly first one → is_some one ≡ is_some first
    go None None known = refl
    go None (Some one) known = absurd known
    go (Some first) None known = absurd known
    go (Some first) (Some one) known = refl

-- another search
pub other_passed : (at : StopAt) (only : Option First) (s : State) → (at ≡ Double → ⊥) → is_stop at (is_some only) s ≡ false
    → Searched at only only (Step ∷ []) s
other_passed Unfetched only s other passes = λ n left known. ((stop-known Unfetched only left s known ∙ passes, tt), tt)
other_passed Violation only s other passes = λ n left known. ((stop-known Violation only left s known ∙ passes, tt), tt)
other_passed Double only s other passes = absurd (other refl)

-- a trap where none was open
pub only-opened : (s : State) (running : is_halted s ≡ false) (f : Fault) (number : ℕ) (left : Traps) (only : Option First)
    (level : Option Level) (pc : ℕ) → trap_in (step_effect s) ≡ Some f → is_stop Double (is_some only) s ≡ false
    → IsOnly only left.first → level ≡ level_left s → pc ≡ pc_of s
    → IsOnly (Some (record { number = 0; inner = 0; level = level; fault = f; pc = pc })) (after_step number s left).first
unfolding is_stop
only-opened s running f number left only level pc is passes known same at =
    let trapped : is_trap (outcome Step s) ≡ true = traps s running ∙ ap is_some is in
    let none : is_some only ≡ false = rw trapped at passes in
    rw (trap-taken s running number left f is) (go only left.first none known)
  where
    go : (first : Option First) (one : Option Open) → is_some first ≡ false → IsOnly first one
        → IsOnly (Some (record { number = 0; inner = 0; level = level; fault = f; pc = pc })) (Some (opened number s one))
    go None None none known = (same, refl, refl, is-taken s running f pc (trap-of (step_effect s) f is) at)
    go None (Some one) none known = absurd known
    go (Some first) one none known = cc

-- a step that is no trap
pub only-gone : (s : State) (running : is_halted s ≡ false) (number : ℕ) (left : Traps) (only now : Option First)
    → trap_in (step_effect s) ≡ None → IsOnly only left.first
    → ((symbols : List Symbol) (words : List ℕ) (found : Option Open) → IsOpen symbols only words found
    → IsOpen symbols now words (gone_on s found))
    → IsOnly now (after_step number s left).first
only-gone s running number left only now is known told =
    rw (none-taken s running number left is) (go only left.first known told)
  where
    none-only : (new : Option First) → IsOpen [] new [] None → None ≡ new
    none-only None known = refl
    none-only (Some new) known = absurd known

    kept : (first : First) (one : Open) (new : Option First) (words : List ℕ) (same back : Bool) → one.inner ≡ 0
        → IsOpen [] new words
        (if same then None else if back then returned (record one { number = first.number })
        else Some (record one { number = first.number }))
        → IsOnly new (if same then None else if back then returned one else Some one)
    kept first one None words true back alone known = tt
    kept first one (Some new) words true back alone known = absurd known
    kept first one None words false true alone known = rw alone tt
    kept first one (Some new) words false true alone known = absurd (rw alone at known)
    kept first one None words false false alone known = absurd known
    kept first one (Some new) words false false alone known = (known.2, known.1 ∙ alone, alone, known.4)

    go : (first : Option First) (one : Option Open) → IsOnly first one
        → ((symbols : List Symbol) (words : List ℕ) (found : Option Open) → IsOpen symbols first words found
        → IsOpen symbols now words (gone_on s found))
        → IsOnly now (gone_on s one)
    go None None known told = subst (λ f. IsOnly f None) (none-only now (told [] [] None tt)) tt
    go None (Some one) known told = absurd known
    go (Some first) None known told = absurd known
    go (Some first) (Some one) known told =
        kept first one now (trap_words [] first.number one.before) (is_at (level_left one.before) s) (is_return (step_effect s)) known.2
        (told [] (trap_words [] first.number one.before) (Some (record one { number = first.number }))
        (refl, known.1 ∙ sym known.2, known.0, refl, known.3))

-- ---- events, one after the other

first_past : (at : StopAt) (n : ℕ) (left : Traps) (xs ys : List Event) (s : State) → PassesStops at n left xs s
    → first_stop at n left (xs ++ ys) s ≡ first_stop at (n + steps_in xs) (traps_after n left xs s) ys (run_after xs s)
first_past at n left [] ys s passes =
    let same : n ≡ n + 0 = omega arith in
    ap (λ m. first_stop at m left ys s) same
first_past at n left (Step ∷ xs) ys s passes =
    let one : n + 1 + steps_in xs ≡ n + suc (steps_in xs) = omega arith in
    let next = after_step (n + 1) s left in
    rw passes.0 (first_past at (n + 1) next xs ys (after Step s) passes.1
    ∙ ap (λ m. first_stop at m (traps_after (n + 1) next xs (after Step s)) ys (run_after xs (after Step s))) one)
first_past at n left (Tick ∷ xs) ys s passes = first_past at n left xs ys (after Tick s) passes
first_past at n left (Byte b ∷ xs) ys s passes = first_past at n left xs ys (after (Byte b) s) passes

up_to_past : (at : StopAt) (n : ℕ) (left : Traps) (xs ys : List Event) (s : State) → PassesStops at n left xs s
    → up_to_stop at n left (xs ++ ys) s ≡ xs ++ up_to_stop at (n + steps_in xs) (traps_after n left xs s) ys (run_after xs s)
up_to_past at n left [] ys s passes =
    let same : n ≡ n + 0 = omega arith in
    ap (λ m. up_to_stop at m left ys s) same
up_to_past at n left (Step ∷ xs) ys s passes =
    let one : n + 1 + steps_in xs ≡ n + suc (steps_in xs) = omega arith in
    let next = after_step (n + 1) s left in
    rw passes.0 (ap (λ es. Step ∷ es) (up_to_past at (n + 1) next xs ys (after Step s) passes.1
    ∙ ap (λ m. xs ++ up_to_stop at m (traps_after (n + 1) next xs (after Step s)) ys (run_after xs (after Step s))) one))
up_to_past at n left (Tick ∷ xs) ys s passes = ap (λ es. Tick ∷ es) (up_to_past at n left xs ys (after Tick s) passes)
up_to_past at n left (Byte b ∷ xs) ys s passes = ap (λ es. Byte b ∷ es) (up_to_past at n left xs ys (after (Byte b) s) passes)

-- where no step is a stop
module _ (at : StopAt) (only : Option First) (xs : List Event) (s : State) (searched : Searched at None only xs s) where
  passes : PassesStops at 0 no_traps xs s
  passes = (searched 0 no_traps (known-none at no_traps (λ is. refl))).0

  pub no_stop : None ≡ first_stop at 0 no_traps xs s
  no_stop = sym (ap (λ es. first_stop at 0 no_traps es s) (sym (append-nil xs)) ∙ first_past at 0 no_traps xs [] s passes)

  pub all_met : xs ≡ up_to_stop at 0 no_traps xs s
  all_met =
      sym (ap (λ es. up_to_stop at 0 no_traps es s) (sym (append-nil xs)) ∙ up_to_past at 0 no_traps xs [] s passes ∙ append-nil xs)

-- ---- of a schedule: the step after n others is the first stop, and t is the machine before it

module _ (at : StopAt) (only : Option First) (schedule : Schedule) (input : List ℕ) (n : ℕ) (s t : State) (events more : List Event)
    (order : scheduled schedule input s ≡ events ++ Step ∷ more)
    (place : events ≡ first_steps schedule input n ++ map Byte (option_to_list (byte_before schedule input (n + 1))))
    (there : t ≡ run_after events s) (all : up_to_halt events s ≡ events) (steps : n ≡ steps_in events)
    (searched : Searched at None only events s) (stop : is_stop at (is_some only) t ≡ true) where
  abbrev left : Traps
  left = traps_after 0 no_traps events s

  met : PassesStops at 0 no_traps events s × Knows at only left
  met = searched 0 no_traps (known-none at no_traps (λ is. refl))

  stops : is_stop at (is_some left.first) t ≡ true
  stops = stop-known at only left t met.1 ∙ stop

  pub number_found : Some (n + 1) ≡ first_stop at 0 no_traps (scheduled schedule input s) s
  number_found =
      let count : 0 + steps_in events ≡ n = omega (arith, steps) in
      sym (ap (λ es. first_stop at 0 no_traps es s) order ∙ first_past at 0 no_traps events (Step ∷ more) s met.0
      ∙ ap (λ v. first_stop at (0 + steps_in events) left (Step ∷ more) v) (sym there) ∙ rw stops (ap (λ k. Some (k + 1)) count))

  pub events_found : events_before (Some (n + 1)) schedule input s ≡ up_to_stop at 0 no_traps (scheduled schedule input s) s
  events_found =
      let one_less : n + 1 - 1 ≡ n = omega arith in
      let byte = map Byte (option_to_list (byte_before schedule input (n + 1))) in
      let whole : up_to_halt (first_steps schedule input n ++ byte) s ≡ first_steps schedule input n ++ byte =
      ap (λ es. up_to_halt es s) (sym place) ∙ all ∙ place in
      ap (λ k. up_to_halt (first_steps schedule input k) s ++ byte) one_less
      ∙ ap (λ es. es ++ byte) (first_are_met (first_steps schedule input n) byte s whole) ∙ sym place
      ∙ sym (ap (λ es. up_to_stop at 0 no_traps es s) order ∙ up_to_past at 0 no_traps events (Step ∷ more) s met.0
      ∙ ap (λ v. events ++ up_to_stop at (0 + steps_in events) left (Step ∷ more) v) (sym there) ∙ rw stops (append-nil events))

-- ---- the entry of a trap

-- what of a state a fetch looks at, after a trap
pub at_entry : (s : State) (f : Fault) → is_halted s ≡ false → step_effect s ≡ effect.Trap f
    → ((after Step s).scrs ≡ trapped_scrs f s.scrs) × ((after Step s).memory ≡ s.memory)
unfolding applied
at_entry s f running is = (
  ap (λ (t : State). t.scrs) (after-trap s running f is),
  ap (λ (t : State). t.memory) (after-trap s running f is),
)
