-- The traps that are left by some events, and by more after them.
use Rattle.std.specs.Prelude.{◌≡◌, ℕ, suc, ◌+◌, List, [], ◌∷◌, ◌++◌}
use Rattle.std.proofs.Common.{sym, ap, ◌∙◌, subst, arith}
use Rattle.steps.specs.declared.event.Event.{Event}
use Rattle.steps.specs.declared.event.Event.TheVariants.{Step, Tick, Byte}
use Rattle.steps.specs.Event.{after}
use Rattle.steps.specs.State.{State}
use Rattle.machine.specs.Run.{run_after}
use Rattle.symbols.specs.Symbols.{Symbol}
use Rattle.schedules.specs.Schedule.{steps_in}
use Rattle.sim_run.specs.LineLaws.{steps_in-append}
use Rattle.sim_run.specs.Unhandled.{Traps, after_step, traps_after}
use Rattle.sim_run.specs.Watched.{Counted, Tells}

pub traps_after-append : (n : ℕ) (left : Traps) (xs ys : List Event) (s : State)
    → traps_after n left (xs ++ ys) s ≡ traps_after (n + steps_in xs) (traps_after n left xs s) ys (run_after xs s)
traps_after-append n left [] ys s =
    let none : n ≡ n + 0 = omega arith in
    ap (λ m. traps_after m left ys s) none
traps_after-append n left (Step ∷ xs) ys s =
    let one : n + 1 + steps_in xs ≡ n + suc (steps_in xs) = omega arith in
    let next = after_step (n + 1) s left in
    traps_after-append (n + 1) next xs ys (after Step s)
    ∙ ap (λ m. traps_after m (traps_after (n + 1) next xs (after Step s)) ys (run_after xs (after Step s))) one
traps_after-append n left (Tick ∷ xs) ys s = traps_after-append n left xs ys (after Tick s)
traps_after-append n left (Byte b ∷ xs) ys s = traps_after-append n left xs ys (after (Byte b) s)

pub counted_none : (n : ℕ) → Counted n n []
counted_none n = omega arith

pub counted_more : (xs ys : List Event) (n n' n'' : ℕ) → Counted n n' xs → Counted n' n'' ys → Counted n n'' (xs ++ ys)
counted_more xs ys n n' n'' first later =
    let both = steps_in-append xs ys in
    omega (arith, both, first, later)

pub tells_none : (Now : Traps → Type 0) (n : ℕ) (s : State) → Tells Now Now n [] s
tells_none Now n s = λ left told. told

-- what is told at each time may name the labels, which stay
pub tells_more : (xs ys : List Event) (s : State) (t t' : List Symbol) (n n' : ℕ) (A B C : List Symbol → Traps → Type 0) → t' ≡ t
    → Counted n n' xs → Tells (A t) (B t) n xs s → Tells (B t') (C t') n' ys (run_after xs s) → Tells (A t) (C t) n (xs ++ ys) s
tells_more xs ys s t t' n n' A B C same count first later = λ left told.
    rw (traps_after-append n left xs ys s, sym count)
    (subst (λ u. C u (traps_after n' (traps_after n left xs s) ys (run_after xs s))) same
    (later (traps_after n left xs s) (subst (λ u. B u (traps_after n left xs s)) (sym same) (first left told))))
