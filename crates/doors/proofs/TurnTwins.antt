-- Two worlds along a turn, event by event.
use Rattle.std.proofs.Common.{◌≡◌, ℕ, ◌+◌, ◌<◌, ◌≤◌, List, [], ◌∷◌, ◌++◌, length, get_or, take, drop, Option, None, Some, refl, sym}
use Rattle.std.proofs.Common.{ap, ◌∙◌, subst, inl, inr, arith}
use Rattle.std.proofs.lemmas.Bool.{cases_lt}
use Rattle.std.proofs.lemmas.List.{take_more}
use Rattle.std.specs.Prelude.{option_to_list}
use Rattle.cap_bounds.specs.CapValue.{CapValue}
use Rattle.steps.specs.declared.ends.Why.{Why}
use Rattle.steps.specs.declared.event.Event.{Event}
use Rattle.steps.specs.Ends.{why_of}
use Rattle.steps.specs.Event.{after, sent, outcome}
use Rattle.steps.specs.IsState.{IsState}
use Rattle.steps.specs.State.{State}
use Rattle.authority.specs.TwoWorldsLaws.{outcome-same, sent-same}
use Rattle.authority.specs.Worlds.{Agree}
use Rattle.machine.specs.Run.{run_after, run_sent}
use Rattle.machine.specs.Stretch.{EndsBefore}
use Rattle.machine.proofs.Runs.{rest}
use Rattle.doors.specs.Closed.{Bounds}
use Rattle.doors.specs.Doors.{IsReachableThroughDoors}
use Rattle.doors.specs.Turn.{turn_why_of, IsPlainOrJump}
use Rattle.doors.specs.Worlds.{AgreeBy, AgreeThroughDoors, IsSameTurn}
use Rattle.doors.proofs.Events.{IsTurnTo, goes_on-outcome, ends-outcome, go_on-append, run_after-append, run_sent-append}
use Rattle.doors.proofs.TwoWorlds.{AreTwins, agree-after, agree-bounded, goes_on-same, no_trap}

-- ---- one event more

module _ (P : CapValue → Type 0) (es : List Event) (e : Event) (s t : State) (so : AreTwins P es s t) where
  abbrev pub one : State
  one = run_after es s

  abbrev pub two : State
  two = run_after es t

  bytes-append : sent e two ≡ sent e one → run_sent (es ++ e ∷ []) t ≡ run_sent (es ++ e ∷ []) s
  bytes-append same =
      run_sent-append es e t ∙ ap (λ byte. run_sent es t ++ option_to_list byte) same ∙ ap (λ b. b ++ option_to_list (sent e one)) so.bytes
      ∙ sym (run_sent-append es e s)

  agree-append : AgreeBy P (after e one) (after e two) → AgreeBy P (run_after (es ++ e ∷ []) s) (run_after (es ++ e ∷ []) t)
  agree-append agree =
      subst (AgreeBy P (run_after (es ++ e ∷ []) s)) (sym (run_after-append es e t))
      (subst (λ x. AgreeBy P x (after e two)) (sym (run_after-append es e s)) agree)

  pub twins-append : IsState one → Bounds P one → IsPlainOrJump e one → AreTwins P (es ++ e ∷ []) s t
  twins-append is bounds goes_on =
      let same : Agree one two = agree-bounded P one two bounds so.agree in
      record {
        goes_on = go_on-append es e t so.goes_on (goes_on-same one two e (outcome-same one two same e) goes_on);
        bytes = bytes-append (sent-same one two same e);
        agree = agree-append (agree-after P one two e is bounds so.agree (no_trap one e goes_on));
      }

-- ---- along a turn

-- each state that agrees at the start is a twin after each of the first events
abbrev pub HasTwins : List Event → State → ℕ → Type 0
HasTwins events s i =
    (t : State) → AgreeThroughDoors s t → (k : ℕ) → k ≤ i → AreTwins (IsReachableThroughDoors s) (take k events) s t

pub HasTwins-none : (events : List Event) (s : State) → HasTwins events s 0
HasTwins-none events s = λ t agree k few.
    let zero : k ≡ 0 = omega arith in
    subst (λ j. AreTwins (IsReachableThroughDoors s) (take j events) s t) (sym zero) (record { goes_on = tt; bytes = refl; agree = agree })

module _ (events : List Event) (i : ℕ) (d : Event) (below : i < length events) (s n : State) (turn : IsTurnTo events s i n)
    (has : HasTwins events s i) where
  abbrev pub here : Event
  here = get_or events i d

  abbrev pub so_far : State
  so_far = run_after (take i events) s

  bounds-so_far : Bounds (IsReachableThroughDoors s) so_far
  bounds-so_far = (turn.keeps i (omega arith)).bounds

  pub HasTwins-more : IsState n → turn_why_of (outcome here n) ≡ None → HasTwins events s (i + 1)
  HasTwins-more is none = λ t agree k few. elim (cases_lt i k) [
    | inl late ↦
        let last : k ≡ i + 1 = omega arith in
        subst (λ es. AreTwins (IsReachableThroughDoors s) es s t) (sym (ap (λ j. take j events) last ∙ take_more events i d below))
        (twins-append (IsReachableThroughDoors s) (take i events) here s t (has t agree i (omega arith)) (subst IsState turn.state is)
        bounds-so_far (subst (IsPlainOrJump here) turn.state (goes_on-outcome (outcome here n) none)))
    | inr early ↦ has t agree k early
  ]

  -- the event ends the turn of the other, too
  pub ends-too : (t : State) → AgreeThroughDoors s t → (w : Why) → turn_why_of (outcome here n) ≡ Some w
      → EndsBefore (Some w) (drop i events) (run_after (take i events) t)
  ends-too t agree w ends =
      let two = run_after (take i events) t in
      let so = has t agree i (omega arith) in
      let same : Agree so_far two = agree-bounded (IsReachableThroughDoors s) so_far two bounds-so_far so.agree in
      subst (λ es. EndsBefore (Some w) es two) (sym (rest events i d below))
      (ap why_of (outcome-same so_far two same here) ∙ ends-outcome (outcome here so_far) w
      (subst (λ x. turn_why_of (outcome here x) ≡ Some w) turn.state ends))

-- ---- the clause at a return

module _ (events : List Event) (s : State) (i done : ℕ) (same : done ≡ i) (has : HasTwins events s i) where
  pub same-turn : (why : Option Why)
      → ((t : State) → AgreeThroughDoors s t → EndsBefore why (drop i events) (run_after (take i events) t)) → (t : State)
      → AgreeThroughDoors s t → IsSameTurn events done why s t
  same-turn why ends t agree =
      subst (λ j. IsSameTurn events j why s t) (sym same)
      (record {
        goes_on = (has t agree i (omega arith)).goes_on;
        end = ends t agree;
        twins = λ k few. let so = has t agree k few in record { bytes = so.bytes; agree = so.agree };
      })
