-- Steps that go at once under a guard keep to the rules.
use Rattle.std.proofs.Common.{◌≡◌, ℕ, zero, suc, ◌<◌, List, length, replicate, refl, sym, ap, ◌∙◌, subst, arith}
use Rattle.std.proofs.lemmas.List.{length-map}
use Rattle.std.specs.Prelude.{None}
use Rattle.steps.specs.declared.event.Event.TheVariants.{Step}
use Rattle.steps.specs.Event.{after}
use Rattle.steps.specs.EventLaws.{IsState-after}
use Rattle.steps.specs.IsState.{IsState}
use Rattle.steps.specs.State.{State, pc_of}
use Rattle.steps.specs.Steps.{GoesBy}
use Rattle.machine.specs.Run.{run_after}
use Rattle.policy.specs.declared.guard.Standing.{Standing}
use Rattle.policy.specs.declared.guard.Standing.TheVariants.{Open, Certain, Guarded}
use Rattle.policy.specs.declared.watcher.Watcher.{Watcher}
use Rattle.policy.specs.Terms.{Terms, terms}
use Rattle.policy.specs.Known.{IsWhole, Knows, held_by, is_guarded, rules_of, said_to}
use Rattle.policy.specs.Watch.{HoldEach, values_in}
use Rattle.policy.specs.Lending.{each_after, in_force_after, in_force_from, next_door}
use Rattle.policy.proofs.Advancing.{hold-run}
use Rattle.policy.proofs.Forced.{each-uncalled, no-door, no-door-plain}
use Rattle.policy.proofs.Learning.{keeps-to-each}
use Rattle.schedules.specs.Pace.{GoBy}
use Rattle.policy_runs.specs.Keeping.{StepsKeepFrom}
use Rattle.policy_runs.specs.Kept.{HasKept, pace_at}

-- ---- steps before each of which the rules hold, and none of which jumps through a seal

module _ (said now : List Terms) (paired : length said ≡ length now) where
  forced-same : (s : State) → next_door s ≡ None → in_force_after said now Step s ≡ now
  forced-same s none =
      ap (λ door. each_after (values_in s) (pc_of s) door said now) none
      ∙ each-uncalled (values_in s) (pc_of s) None said now paired (no-door (pc_of s) said)

  forced-each : (n : ℕ) (s : State) → ((k : ℕ) → k < n → next_door (run_after (replicate k Step) s) ≡ None)
      → in_force_from said now (replicate n Step) s ≡ now
  forced-each zero s uncalled = refl
  forced-each (suc n) s uncalled =
      ap (λ ts. in_force_from said ts (replicate n Step) (after Step s)) (forced-same s (uncalled zero (omega arith)))
      ∙ forced-each n (after Step s) (λ k below. uncalled (suc k) (omega arith))

  keep-each : (n : ℕ) (s : State) → IsState s → ((k : ℕ) → k < n → next_door (run_after (replicate k Step) s) ≡ None)
      → ((k : ℕ) → k < n → HoldEach now (run_after (replicate k Step) s)) → StepsKeepFrom said now (replicate n Step) s
  keep-each zero s is uncalled hold = tt
  keep-each (suc n) s is uncalled hold = (
    keeps-to-each now Step s is (hold zero (omega arith)),
    subst (λ ts. StepsKeepFrom said ts (replicate n Step) (after Step s)) (sym (forced-same s (uncalled zero (omega arith))))
        (keep-each n (after Step s) (IsState-after s is Step tt) (λ k below. uncalled (suc k) (omega arith))
        (λ k below. hold (suc k) (omega arith))),
  )

-- ---- of a watcher

pub as-many : (w : Watcher) → IsWhole w → length (said_to w) ≡ length (rules_of w)
as-many w whole = length-map w.force.said.now terms ∙ whole.0 ∙ sym (length-map (held_by w.force) terms)

-- steps go at once only under a guard
pub under-guard : (standing : Standing) (n : ℕ) (s : State) → GoBy (pace_at (is_guarded standing)).speed n s
    → (standing ≡ Guarded) × ((k : ℕ) → k < n → GoesBy None (run_after (replicate k Step) s))
under-guard Guarded n s goes = (refl, goes)
under-guard Open n s goes = absurd goes
under-guard Certain n s goes = absurd goes

module _ (v w : Watcher) (s : State) (n : ℕ) (whole : IsWhole v) (under : v.standing ≡ Guarded)
    (goes : (k : ℕ) → k < n → GoesBy None (run_after (replicate k Step) s)) (knows : Knows v s) where
  uncalled : (k : ℕ) → k < n → next_door (run_after (replicate k Step) s) ≡ None
  uncalled k below = no-door-plain _ (goes k below).running (goes k below).plain

  pub kept-guarded : rules_of w ≡ rules_of v → Knows w (run_after (replicate n Step) s) → HasKept Knows (replicate n Step) s v w
  kept-guarded same later = record {
    keep = keep-each (said_to v) (rules_of v) (as-many v whole) n s knows.state uncalled (hold-run v s knows under n goes);
    force = same ∙ sym (forced-each (said_to v) (rules_of v) (as-many v whole) n s uncalled);
    truth = later;
  }
