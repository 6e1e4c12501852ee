-- A watched run goes on by one event.
use Rattle.std.proofs.Common.{◌≡◌, ℕ, ◌+◌, ◌<◌, List, [], ◌∷◌, ◌++◌, length, get_or, take, refl, sym, ap, ◌∙◌, subst, inl, inr}
use Rattle.std.proofs.Common.{append_assoc, arith}
use Rattle.std.proofs.lemmas.Bool.{cases_eq}
use Rattle.std.proofs.lemmas.List.{append-nil, take_more, get_or_default}
use Rattle.std.specs.List.{HoldsAt}
use Rattle.std.specs.Prelude.{option_to_list, Option, None, Some, Result, Ok, Err, IfSome, IfNone, OnErr}
use Rattle.steps.specs.declared.event.Event.{Event}
use Rattle.steps.specs.Event.{after, sent}
use Rattle.steps.specs.State.{State}
use Rattle.machine.specs.Run.{run_after, run_sent}
use Rattle.policy.specs.Terms.{Terms}
use Rattle.policy.specs.Watch.{KeepsToEach}
use Rattle.policy.specs.Lending.{in_force, in_force_after}
use Rattle.policy.specs.Run.{KeepToEach, IsRunOf}
use Rattle.policy.proofs.Forced.{in_force-append}

-- ---- lists and options

-- what holds at the places below one, and at that one
module _ {X : Type 0} (P : X → Type 0) (xs : List X) (i : ℕ) (x : X) (below : i < length xs) (at : x ≡ get_or xs i x) where
  pub places-more : P x → ((k : ℕ) → k < i → HoldsAt P xs k) → (k : ℕ) → k < i + 1 → HoldsAt P xs k
  places-more holds before k few d = elim (cases_eq k i) [
    | inl same ↦ subst (λ n. P (get_or xs n d)) (sym same) (subst P (at ∙ get_or_default xs i x d below) holds)
    | inr other ↦ before k (omega (arith, other)) d
  ]

pub some-map : {X : Type 0} (P Q : X → Type 0) (o : Option X) → ((x : X) → P x → Q x) → IfSome o P → IfSome o Q
some-map P Q None all holds = tt
some-map P Q (Some x) all holds = all x holds

pub none-map : {X : Type 0} (A B : Type 0) (o : Option X) → (A → B) → IfNone o A → IfNone o B
none-map A B None all holds = all holds
none-map A B (Some x) all holds = tt

pub on_err : {X Y : Type 0} (r : Result X Y) (A : Type 0) → A → OnErr r A
on_err (Ok x) A holds = tt
on_err (Err y) A holds = holds

-- ---- runs

pub run_after-append : (es : List Event) (e : Event) (s : State) → run_after (es ++ e ∷ []) s ≡ after e (run_after es s)
run_after-append [] e s = refl
run_after-append (x ∷ es) e s = run_after-append es e (after x s)

pub run_sent-append : (es : List Event) (e : Event) (s : State)
    → run_sent (es ++ e ∷ []) s ≡ run_sent es s ++ option_to_list (sent e (run_after es s))
run_sent-append [] e s = append-nil (option_to_list (sent e s))
run_sent-append (x ∷ es) e s =
    ap (λ b. option_to_list (sent x s) ++ b) (run_sent-append es e (after x s))
    ∙ sym (append_assoc (option_to_list (sent x s)) (run_sent es (after x s)) (option_to_list (sent e (run_after es (after x s)))))

pub run-none : (events : List Event) (s : State) (out now : List ℕ) → now ≡ out → IsRunOf events 0 s s out now
run-none events s out now same = record { some = omega arith; state = refl; bytes = same ∙ sym (append-nil out) }

pub kept-none : (rules : List Terms) (events : List Event) (s : State) → KeepToEach rules events 0 s
kept-none rules events s = λ k few. absurd (omega arith)

module _ (events : List Event) (i : ℕ) (d : Event) (below : i < length events) (s t : State) (out now : List ℕ)
    (run : IsRunOf events i s t out now) where
  abbrev event : Event
  event = get_or events i d

  more : take (i + 1) events ≡ take i events ++ event ∷ []
  more = take_more events i d below

  pub run-more : (next : State) (bytes : List ℕ) → next ≡ after event t → bytes ≡ now ++ option_to_list (sent event t)
      → IsRunOf events (i + 1) s next out bytes
  run-more next bytes met emitted = record {
    some = omega arith;
    state = met ∙ ap (after event) run.state ∙ sym (run_after-append (take i events) event s) ∙ ap (λ es. run_after es s) (sym more);
    bytes = emitted ∙ ap (λ b. b ++ option_to_list (sent event t)) run.bytes
        ∙ append_assoc out (run_sent (take i events) s) (option_to_list (sent event t))
        ∙ ap (λ x. out ++ (run_sent (take i events) s ++ option_to_list (sent event x))) run.state
        ∙ ap (λ b. out ++ b) (sym (run_sent-append (take i events) event s))
        ∙ ap (λ es. out ++ run_sent es s) (sym more);
  }

-- what is in force after one event more
pub forced-more : (rules : List Terms) (events : List Event) (i : ℕ) (d : Event) → i < length events → (s t : State)
    → t ≡ run_after (take i events) s → (said now : List Terms) → said ≡ rules → now ≡ in_force rules (take i events) s
    → in_force_after said now (get_or events i d) t ≡ in_force rules (take (i + 1) events) s
forced-more rules events i d below s t state said now same_said same_now =
    ap (λ x. in_force_after x now (get_or events i d) t) same_said
    ∙ ap (λ y. in_force_after rules y (get_or events i d) t) same_now
    ∙ ap (in_force_after rules (in_force rules (take i events) s) (get_or events i d)) state
    ∙ sym (in_force-append rules rules (take i events) (get_or events i d) s)
    ∙ ap (λ es. in_force rules es s) (sym (take_more events i d below))

pub kept-more : (rules : List Terms) (events : List Event) (i : ℕ) (s t : State) → t ≡ run_after (take i events) s
    → ((e : Event) → KeepsToEach (in_force rules (take i events) s) e t) → KeepToEach rules events i s
    → KeepToEach rules events (i + 1) s
kept-more rules events i s t state last before = λ k few d. elim (cases_eq k i) [
  | inl same ↦
      let here : KeepsToEach (in_force rules (take i events) s) (get_or events i d) (run_after (take i events) s) =
      subst (KeepsToEach (in_force rules (take i events) s) (get_or events i d)) state (last (get_or events i d)) in
      subst (λ n. KeepsToEach (in_force rules (take n events) s) (get_or events n d) (run_after (take n events) s)) (sym same) here
  | inr other ↦ before k (omega (arith, other)) d
]

pub kept-at : (rules : List Terms) (events : List Event) (i done : ℕ) (s : State) → done ≡ i → KeepToEach rules events i s
    → KeepToEach rules events done s
kept-at rules events i done s same kept = subst (λ n. KeepToEach rules events n s) (sym same) kept
