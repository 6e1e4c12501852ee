-- A turn goes on by one event, and ends before one.
use Rattle.std.proofs.Common.{◌≡◌, ◌≢◌, ℕ, ◌+◌, ◌<◌, ◌≤◌, List, [], ◌∷◌, ◌++◌, length, get_or, take, drop, None, Some, refl, sym}
use Rattle.std.proofs.Common.{ap, ◌∙◌, subst, ◌⊎◌, inl, inr, append_assoc, arith}
use Rattle.std.proofs.lemmas.Bool.{cases_lt}
use Rattle.std.proofs.lemmas.List.{append-nil, take_more}
use Rattle.std.specs.Prelude.{option_to_list}
use Rattle.steps.specs.declared.ends.Why.{Why}
use Rattle.steps.specs.declared.ends.Why.TheVariants as why
use Rattle.steps.specs.declared.event.Event.{Event}
use Rattle.steps.specs.Ends.{why_of}
use Rattle.steps.specs.Event.{after, sent, outcome}
use Rattle.steps.specs.IsState.{IsState}
use Rattle.steps.specs.Outcome.{Outcome, Plain, Trap, Unseal, SealedJump}
use Rattle.steps.specs.State.{State}
use Rattle.machine.specs.Run.{run_after, run_sent}
use Rattle.machine.specs.Stretch.{EndsBefore}
use Rattle.machine.proofs.Runs.{rest}
use Rattle.doors.specs.Doors.{IsReachableThroughDoors, NoNewRightsThroughDoors, NewSealsAllowedThroughDoors, LeavesAloneThroughDoors}
use Rattle.doors.specs.Doors.{IsSilentThroughDoors}
use Rattle.doors.specs.DoorsLaws.{doors-have, doors-bound}
use Rattle.doors.specs.SetLaws.{rights-bounded, seals-bounded}
use Rattle.doors.specs.Turn.{turn_why_of, IsPlainOrJump, ArePlainOrJumps}
use Rattle.doors.proofs.Turns.{Keeps, Keeps-none, Keeps-after}

-- ---- outcomes

-- what doesn't end a turn is plain or a sealed jump
pub goes_on-outcome : (o : Outcome) → turn_why_of o ≡ None → (o ≡ Plain) ⊎ (o ≡ SealedJump)
goes_on-outcome Plain none = inl refl
goes_on-outcome SealedJump none = inr refl
goes_on-outcome Trap none = cc
goes_on-outcome Unseal none = cc

-- what ends it ends a stretch too
pub ends-outcome : (o : Outcome) (w : Why) → turn_why_of o ≡ Some w → why_of o ≡ Some w
ends-outcome Plain w ends = cc
ends-outcome SealedJump w ends = cc
ends-outcome Trap w ends = ends
ends-outcome Unseal w ends = ends

-- and is no sealed jump
no_jump-outcome : (o : Outcome) (w : Why) → turn_why_of o ≡ Some w → Some w ≢ Some why.SealedJump
no_jump-outcome Plain w ends = cc
no_jump-outcome SealedJump w ends = cc
no_jump-outcome Trap w ends = λ same.
    let never : Some why.Trap ≡ Some why.SealedJump = ends ∙ same in
    cc
no_jump-outcome Unseal w ends = λ same.
    let never : Some why.Unseal ≡ Some why.SealedJump = ends ∙ same in
    cc

-- ---- one event more

pub run_after-append : (es : List Event) (e : Event) (s : State) → run_after (es ++ e ∷ []) s ≡ after e (run_after es s)
run_after-append [] e s = refl
run_after-append (x ∷ es) e s = run_after-append es e (after x s)

pub run_sent-append : (es : List Event) (e : Event) (s : State)
    → run_sent (es ++ e ∷ []) s ≡ run_sent es s ++ option_to_list (sent e (run_after es s))
run_sent-append [] e s = append-nil (option_to_list (sent e s))
run_sent-append (x ∷ es) e s =
    ap (λ b. option_to_list (sent x s) ++ b) (run_sent-append es e (after x s))
    ∙ sym (append_assoc (option_to_list (sent x s)) (run_sent es (after x s)) (option_to_list (sent e (run_after es (after x s)))))

pub go_on-append : (es : List Event) (e : Event) (s : State) → ArePlainOrJumps es s → IsPlainOrJump e (run_after es s)
    → ArePlainOrJumps (es ++ e ∷ []) s
go_on-append [] e s all last = (last, tt)
go_on-append (x ∷ es) e s all last = (all.0, go_on-append es e (after x s) all.1 last)

-- what a turn keeps after each of its first events
abbrev pub KeepsUpTo : List Event → State → ℕ → Type 0
KeepsUpTo events s i =
    (k : ℕ) → k ≤ i → Keeps (IsReachableThroughDoors s) s (run_after (take k events) s) (run_sent (take k events) s)

-- The turn from a state over the first i of some events: it comes to t, and keeps authority.
pub record IsTurnTo (events : List Event) (s : State) (i : ℕ) (t : State) : Type 0 where
  pub state : t ≡ run_after (take i events) s
  pub goes_on : ArePlainOrJumps (take i events) s
  pub keeps : KeepsUpTo events s i

pub IsTurnTo-none : (events : List Event) (s : State) → IsTurnTo events s 0 s
IsTurnTo-none events s = record {
  state = refl;
  goes_on = tt;
  keeps = λ k few.
      let zero : k ≡ 0 = omega arith in
      subst (λ j. Keeps (IsReachableThroughDoors s) s (run_after (take j events) s) (run_sent (take j events) s)) (sym zero)
      (Keeps-none (IsReachableThroughDoors s) s (doors-bound s));
}

module _ (events : List Event) (i : ℕ) (d : Event) (below : i < length events) (s t : State) (turn : IsTurnTo events s i t) where
  more : take (i + 1) events ≡ take i events ++ get_or events i d ∷ []
  more = take_more events i d below

  run_after-more : after (get_or events i d) t ≡ run_after (take (i + 1) events) s
  run_after-more =
      ap (after (get_or events i d)) turn.state ∙ sym (run_after-append (take i events) (get_or events i d) s)
      ∙ ap (λ es. run_after es s) (sym more)

  run_sent-more : run_sent (take i events) s ++ option_to_list (sent (get_or events i d) t) ≡ run_sent (take (i + 1) events) s
  run_sent-more =
      ap (λ x. run_sent (take i events) s ++ option_to_list (sent (get_or events i d) x)) turn.state
      ∙ sym (run_sent-append (take i events) (get_or events i d) s) ∙ ap (λ es. run_sent es s) (sym more)

  go_on-more : IsPlainOrJump (get_or events i d) t → ArePlainOrJumps (take (i + 1) events) s
  go_on-more last =
      subst (λ es. ArePlainOrJumps es s) (sym more)
      (go_on-append (take i events) (get_or events i d) s turn.goes_on (subst (IsPlainOrJump (get_or events i d)) turn.state last))

  keeps-last : IsState t → IsPlainOrJump (get_or events i d) t
      → Keeps (IsReachableThroughDoors s) s (run_after (take (i + 1) events) s) (run_sent (take (i + 1) events) s)
  keeps-last is last =
      let before : Keeps (IsReachableThroughDoors s) s t (run_sent (take i events) s) =
      subst (λ x. Keeps (IsReachableThroughDoors s) s x (run_sent (take i events) s)) (sym turn.state) (turn.keeps i (omega arith)) in
      subst (Keeps (IsReachableThroughDoors s) s (run_after (take (i + 1) events) s)) run_sent-more
      (subst (λ x. Keeps (IsReachableThroughDoors s) s x (run_sent (take i events) s ++ option_to_list (sent (get_or events i d) t)))
      run_after-more
      (Keeps-after (IsReachableThroughDoors s) (doors-have s) s t (run_sent (take i events) s) (get_or events i d) before is last))

  pub IsTurnTo-more : (n : State) → n ≡ after (get_or events i d) t → IsState t → turn_why_of (outcome (get_or events i d) t) ≡ None
      → IsTurnTo events s (i + 1) n
  IsTurnTo-more n met is none = record {
    state = met ∙ run_after-more;
    goes_on = go_on-more (goes_on-outcome (outcome (get_or events i d) t) none);
    keeps = λ k few. elim (cases_lt i k) [
      | inl late ↦
          let same : k ≡ i + 1 = omega arith in
          subst (λ j. Keeps (IsReachableThroughDoors s) s (run_after (take j events) s) (run_sent (take j events) s)) (sym same)
          (keeps-last is (goes_on-outcome (outcome (get_or events i d) t) none))
      | inr early ↦ turn.keeps k early
    ];
  }

  pub bytes-more : (bytes out first : List ℕ) → bytes ≡ out ++ option_to_list (sent (get_or events i d) t)
      → out ≡ first ++ run_sent (take i events) s → bytes ≡ first ++ run_sent (take (i + 1) events) s
  bytes-more bytes out first emitted before =
      emitted ∙ ap (λ b. b ++ option_to_list (sent (get_or events i d) t)) before
      ∙ append_assoc first (run_sent (take i events) s) (option_to_list (sent (get_or events i d) t))
      ∙ ap (λ b. first ++ b) run_sent-more

  -- the event ends the turn
  pub ends-before : (done : ℕ) (w : Why) (n : State) → done ≡ i → n ≡ t → turn_why_of (outcome (get_or events i d) t) ≡ Some w
      → EndsBefore (Some w) (drop done events) n
  ends-before done w n same stays ends =
      let here : EndsBefore (Some w) (drop i events) t =
      subst (λ es. EndsBefore (Some w) es t) (sym (rest events i d below)) (ends-outcome (outcome (get_or events i d) t) w ends) in
      subst (EndsBefore (Some w) (drop done events)) (sym stays) (subst (λ j. EndsBefore (Some w) (drop j events) t) (sym same) here)

  pub ends-no_jump : (w : Why) → turn_why_of (outcome (get_or events i d) t) ≡ Some w → Some w ≢ Some why.SealedJump
  ends-no_jump w ends = no_jump-outcome (outcome (get_or events i d) t) w ends

-- ---- the clauses at a return

module _ (events : List Event) (s t : State) (i done : ℕ) (same : done ≡ i) (turn : IsTurnTo events s i t) where
  up_to : (k : ℕ) → k ≤ done → Keeps (IsReachableThroughDoors s) s (run_after (take k events) s) (run_sent (take k events) s)
  up_to k few = turn.keeps k (omega arith)

  pub state-kept : t ≡ run_after (take done events) s
  state-kept = turn.state ∙ ap (λ n. run_after (take n events) s) (sym same)

  pub goes_on-kept : ArePlainOrJumps (take done events) s
  goes_on-kept = subst (λ n. ArePlainOrJumps (take n events) s) (sym same) turn.goes_on

  pub rights-kept : (k : ℕ) → k ≤ done → NoNewRightsThroughDoors s (run_after (take k events) s)
  rights-kept k few = rights-bounded (IsReachableThroughDoors s) (run_after (take k events) s) (up_to k few).bounds

  pub seals-kept : (k : ℕ) → k ≤ done → NewSealsAllowedThroughDoors s (run_after (take k events) s)
  seals-kept k few = seals-bounded (IsReachableThroughDoors s) (run_after (take k events) s) (up_to k few).bounds

  pub left-kept : (k : ℕ) → k ≤ done → LeavesAloneThroughDoors s (run_after (take k events) s)
  left-kept k few = (up_to k few).left

  pub silent-kept : IsSilentThroughDoors s (run_sent (take done events) s)
  silent-kept = (up_to done (omega arith)).silent
