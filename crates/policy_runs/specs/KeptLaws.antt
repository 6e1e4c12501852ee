-- What was kept over some events, and over more after them.
use Rattle.std.specs.Prelude.{◌≡◌, ◌≤◌, List, [], ◌∷◌, ◌++◌, length}
use Rattle.std.proofs.Common.{refl, sym, ◌∙◌, subst}
use Rattle.steps.specs.declared.event.Event.{Event}
use Rattle.steps.specs.declared.event.Event.TheVariants.{Step, Tick, Byte}
use Rattle.steps.specs.Event.{after}
use Rattle.steps.specs.State.{State}
use Rattle.machine.specs.Run.{run_after}
use Rattle.policy.specs.declared.watcher.Watcher.{Watcher}
use Rattle.policy.specs.Terms.{Terms}
use Rattle.policy.specs.Known.{Knows, rules_of, said_to}
use Rattle.policy.specs.Lending.{in_force_after, in_force_from}
use Rattle.schedules.proofs.Events.{run_after-append}
use Rattle.policy_runs.specs.declared.keeper.Bar.{Bar}
use Rattle.policy_runs.specs.declared.keeper.Bar.TheVariants.{Broken, Memory}
use Rattle.policy_runs.specs.Keeping.{StepsKeepFrom}
use Rattle.policy_runs.specs.Kept.{Kept, IsBarred}

module _ (said : List Terms) where
  keep-append : (now : List Terms) (xs ys : List Event) (s : State) → StepsKeepFrom said now xs s
      → StepsKeepFrom said (in_force_from said now xs s) ys (run_after xs s) → StepsKeepFrom said now (xs ++ ys) s
  keep-append now [] ys s first rest = rest
  keep-append now (Step ∷ xs) ys s first rest =
      (first.0, keep-append (in_force_after said now Step s) xs ys (after Step s) first.1 rest)
  keep-append now (Tick ∷ xs) ys s first rest = keep-append now xs ys (after Tick s) first rest
  keep-append now (Byte b ∷ xs) ys s first rest = keep-append now xs ys (after (Byte b) s) first rest

  force-append : (now : List Terms) (xs ys : List Event) (s : State)
      → in_force_from said now (xs ++ ys) s ≡ in_force_from said (in_force_from said now xs s) ys (run_after xs s)
  force-append now [] ys s = refl
  force-append now (x ∷ xs) ys s = force-append (in_force_after said now x s) xs ys (after x s)

pub kept_none : (s : State) (w : Watcher) → Kept Knows [] s w w
kept_none s w = (refl, λ knows. record { keep = tt; force = refl; truth = knows })

module _ (xs ys : List Event) (s : State) (u v : Watcher) (first : Kept Knows xs s u v) where
  pub kept_more : (w : Watcher) → Kept Knows ys (run_after xs s) v w → Kept Knows (xs ++ ys) s u w
  kept_more w later = (
    later.0 ∙ first.0,
    λ knows.
        let before = first.1 knows in
        let more = later.1 before.truth in
        record {
          keep = keep-append (said_to u) (rules_of u) xs ys s before.keep (rw (first.0, before.force) at more.keep);
          force = (rw (first.0, before.force) at more.force) ∙ sym (force-append (said_to u) (rules_of u) xs ys s);
          truth = rw (run_after-append xs ys s) more.truth;
        },
  )

  pub barred_later : (bar : Bar) → IsBarred bar ys (run_after xs s) v → IsBarred bar (xs ++ ys) s u
  barred_later (Broken refused) barred = λ knows.
      let before = first.1 knows in
      let both = barred before.truth in (
        keep-append (said_to u) (rules_of u) xs ys s before.keep (rw (first.0, before.force) at both.0),
        rw (force-append (said_to u) (rules_of u) xs ys s, run_after-append xs ys s) (rw (first.0, before.force) at both.1),
      )
  barred_later Memory barred = (
    subst (λ said. 1 ≤ length said) first.0 barred.0,
    λ knows.
        let before = first.1 knows in
        keep-append (said_to u) (rules_of u) xs ys s before.keep (rw (first.0, before.force) at (barred.1 before.truth)),
  )
