-- Where a policy stops a run, as the search for the first breach answers it of another machine in the same state.
use Rattle.std.proofs.Common.{◌≡◌, ℕ, List, sym, subst}
use Rattle.std.specs.Prelude.{Option, None, Some, Result, Ok, Err, IfOk, IfErr, IsErrAnd, IfSome, IfNone}
use Rattle.machine.specs.Run.{run_after}
use Rattle.policy.specs.Lending.{in_force}
use Rattle.policy.specs.Terms.{Terms}
use Rattle.policy.specs.Watch.{IsRefused}
use Rattle.policy_runs.specs.declared.breach.Breach.{Breach}
use Rattle.policy_runs.specs.Keeping.{StepsKeepToEach}
use Rattle.schedules.specs.declared.schedule.Schedule.{Schedule}
use Rattle.schedules.specs.Schedule.{IsPlaceOf, events_before, scheduled}
use Rattle.steps.specs.State.{State}
use Rattle.cherisim_c.specs.declared.refusal.Refusal.{Refusal}
use Rattle.cherisim_c.specs.declared.refusal.Refusal.TheVariants as refusal
use Rattle.cherisim_c.specs.declared.types.Timetable.{Timetable}
use Rattle.cherisim_c.specs.Policies.{Stops}
use Rattle.cherisim_c.specs.Refusals.{IsLabelsRefusal, IsRefusalOf, IsTextsRefusal}

-- what holds of a refusal holds of a result that hands it on
pub refused_so : {T F : Type 0} (result : Result T F) (fault : F) (Holds : F → Type 0)
    → IsErrAnd result (λ f. f ≡ fault) → Holds fault → IfErr result Holds
refused_so (Err f) fault Holds same holds = subst Holds (sym same) holds
refused_so (Ok x) fault Holds same holds = tt

-- a refusal of labels is one of texts, and one of texts is one of a question with them
pub of_labels : (labels text : List ℕ) (refusal : Refusal) → IsLabelsRefusal labels refusal → IsTextsRefusal labels text refusal
of_labels labels text (refusal.Labels line) is = is
of_labels labels text refusal.Memory is = tt
of_labels labels text refusal.Schedule is = absurd is
of_labels labels text (refusal.Text line code) is = absurd is

pub of_texts : (labels text : List ℕ) (t : Timetable) (refusal : Refusal) → IsTextsRefusal labels text refusal
    → IsRefusalOf labels text t refusal
of_texts labels text t (refusal.Labels line) is = is
of_texts labels text t refusal.Memory is = tt
of_texts labels text t refusal.Schedule is = absurd is
of_texts labels text t (refusal.Text line code) is = is

module _ (rules : List Terms) (schedule : Schedule) (input : List ℕ) (s : State) where
  stops_here : (later : State) (found : Option Breach)
      → IfNone found (StepsKeepToEach rules (scheduled schedule input s) s)
      → IfSome found (λ x. IsPlaceOf schedule x.number)
      → IfSome found (λ x. later ≡ run_after (events_before (Some x.number) schedule input s) s)
      → IfSome found (λ x. IsRefused (in_force rules (events_before (Some x.number) schedule input s) s) x.refused later)
      → IfSome found (λ x. StepsKeepToEach rules (events_before (Some x.number) schedule input s) s)
      → Stops rules schedule input s found
  stops_here later None none number state refused kept = λ _. none
  stops_here later (Some x) none number state refused kept =
      record {
        place = number;
        kept = kept;
        refused = subst (IsRefused (in_force rules (events_before (Some x.number) schedule input s) s) x.refused) state refused;
      }

  pub stops_at : (t later : State) {F : Type 0} (found : Result (Option Breach) F) → t ≡ s
      → IfOk found (λ b. IfNone b (StepsKeepToEach rules (scheduled schedule input t) t))
      → IfOk found (λ b. IfSome b (λ x. IsPlaceOf schedule x.number))
      → IfOk found (λ b. IfSome b (λ x. later ≡ run_after (events_before (Some x.number) schedule input t) t))
      → IfOk found (λ b. IfSome b (λ x.
      IsRefused (in_force rules (events_before (Some x.number) schedule input t) t) x.refused later))
      → IfOk found (λ b. IfSome b (λ x. StepsKeepToEach rules (events_before (Some x.number) schedule input t) t))
      → IfOk found (Stops rules schedule input s)
  stops_at t later (Err fault) same none number state refused kept = tt
  stops_at t later (Ok found) same none number state refused kept =
      stops_here later found (subst (λ u. IfNone found (StepsKeepToEach rules (scheduled schedule input u) u)) same none) number
      (subst (λ u. IfSome found (λ x. later ≡ run_after (events_before (Some x.number) schedule input u) u)) same state)
      (subst (λ u. IfSome found (λ x.
      IsRefused (in_force rules (events_before (Some x.number) schedule input u) u) x.refused later)) same refused)
      (subst (λ u. IfSome found (λ x. StepsKeepToEach rules (events_before (Some x.number) schedule input u) u)) same kept)
