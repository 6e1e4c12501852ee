-- Events that pass no stop, and more after them.
use Rattle.std.specs.Prelude.{◌≡◌, ℕ, suc, ◌+◌, Option, List, [], ◌∷◌, ◌++◌}
use Rattle.std.proofs.Common.{sym, subst, arith}
use Rattle.steps.specs.declared.event.Event.{Event}
use Rattle.steps.specs.declared.event.Event.TheVariants.{Step, Tick, Byte}
use Rattle.steps.specs.Event.{after}
use Rattle.steps.specs.State.{State}
use Rattle.machine.specs.Run.{run_after}
use Rattle.schedules.specs.Schedule.{steps_in}
use Rattle.sim_run.specs.declared.notes.First.{First}
use Rattle.sim_run.specs.declared.stopping.StopAt.{StopAt}
use Rattle.sim_run.specs.Stopped.{Knows, PassesStops, Searched}
use Rattle.sim_run.specs.Unhandled.{Traps, after_step, traps_after}
use Rattle.sim_run.specs.WatchedLaws.{traps_after-append}

passes-append : (at : StopAt) (n : ℕ) (left : Traps) (xs ys : List Event) (s : State) → PassesStops at n left xs s
    → PassesStops at (n + steps_in xs) (traps_after n left xs s) ys (run_after xs s) → PassesStops at n left (xs ++ ys) s
passes-append at n left [] ys s first later =
    let none : n + 0 ≡ n = omega arith in
    subst (λ m. PassesStops at m left ys s) none later
passes-append at n left (Step ∷ xs) ys s first later =
    let one : n + suc (steps_in xs) ≡ n + 1 + steps_in xs = omega arith in
    let next = after_step (n + 1) s left in (
      first.0,
      passes-append at (n + 1) next xs ys (after Step s) first.1
          (subst (λ m. PassesStops at m (traps_after (n + 1) next xs (after Step s)) ys (run_after xs (after Step s))) one later),
    )
passes-append at n left (Tick ∷ xs) ys s first later = passes-append at n left xs ys (after Tick s) first later
passes-append at n left (Byte b ∷ xs) ys s first later = passes-append at n left xs ys (after (Byte b) s) first later

pub searched_none : (at : StopAt) (only : Option First) (s : State) → Searched at only only [] s
searched_none at only s = λ n left known. (tt, known)

pub searched_more : (xs ys : List Event) (s : State) (at at' : StopAt) (u v w : Option First) → at' ≡ at → Searched at u v xs s
    → Searched at' v w ys (run_after xs s) → Searched at u w (xs ++ ys) s
searched_more xs ys s at at' u v w same first later = λ n left known.
    let one = first n left known in
    let two = subst (λ a. Searched a v w ys (run_after xs s)) same later (n + steps_in xs) (traps_after n left xs s) one.1 in
    (passes-append at n left xs ys s one.0 two.0, subst (Knows at w) (sym (traps_after-append n left xs ys s)) two.1)
