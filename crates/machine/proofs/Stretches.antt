-- A stretch goes on by one event, and keeps authority.
use Rattle.std.proofs.Common.{◌≡◌, ℕ, ◌+◌, ◌<◌, ◌≤◌, List, [], ◌∷◌, ◌++◌, length, get_or, take, drop, None, Some, Option}
use Rattle.std.proofs.Common.{inl, inr, refl, sym, true, false}
use Rattle.std.proofs.Common.{ap, ◌∙◌, subst, append_assoc, arith}
use Rattle.std.proofs.lemmas.Bool.{cases_lt}
use Rattle.std.proofs.lemmas.List.{append-nil, take_more}
use Rattle.std.specs.Prelude.{option_to_list, is_some}
use Rattle.steps.specs.declared.ends.Why.{Why}
use Rattle.steps.specs.declared.event.Event.{Event}
use Rattle.steps.specs.Ends.{why_of}
use Rattle.steps.specs.Event.{after, sent, outcome}
use Rattle.steps.specs.IsState.{IsState}
use Rattle.steps.specs.Outcome.{Outcome, Plain, Trap, Unseal, SealedJump}
use Rattle.steps.specs.State.{State}
use Rattle.machine.specs.Run.{run_after, run_sent}
use Rattle.machine.specs.Stretch.{ArePlain, EndsBefore}
use Rattle.machine.proofs.Runs.{rest}
use Rattle.devices.specs.Devices.{transmit}
use Rattle.authority.specs.Authority.{NoNewRights, NewSealsAllowed, LeavesAlone, IsSilent}
use Rattle.authority.specs.Grounded.{GrowsNot}
use Rattle.authority.specs.GroundedLaws.{GrowsNot-refl, GrowsNot-trans, NoNewRights-grows, NewSealsAllowed-grows, IsWritable-before}
use Rattle.authority.specs.GroundedLaws.{LeavesAlone-refl, LeavesAlone-trans}
use Rattle.authority.specs.StepLaws.{event-grows_not, event-leaves, event-silent}

-- ---- outcomes

-- what gives no reason to end is plain
pub plain-why : (o : Outcome) → why_of o ≡ None → o ≡ Plain
plain-why Plain none = refl
plain-why Trap none = cc
plain-why Unseal none = cc
plain-why SealedJump none = cc

-- ---- one event more

run_after-append : (es : List Event) (e : Event) (s : State) → run_after (es ++ e ∷ []) s ≡ after e (run_after es s)
run_after-append [] e s = refl
run_after-append (x ∷ es) e s = run_after-append es e (after x s)

run_sent-append : (es : List Event) (e : Event) (s : State)
    → run_sent (es ++ e ∷ []) s ≡ run_sent es s ++ option_to_list (sent e (run_after es s))
run_sent-append [] e s = append-nil (option_to_list (sent e s))
run_sent-append (x ∷ es) e s =
    ap (λ b. option_to_list (sent x s) ++ b) (run_sent-append es e (after x s))
    ∙ sym (append_assoc (option_to_list (sent x s)) (run_sent es (after x s)) (option_to_list (sent e (run_after es (after x s)))))

ArePlain-append : (es : List Event) (e : Event) (s : State) → ArePlain es s → outcome e (run_after es s) ≡ Plain
    → ArePlain (es ++ e ∷ []) s
ArePlain-append [] e s plain last = (last, tt)
ArePlain-append (x ∷ es) e s plain last = (plain.0, ArePlain-append es e (after x s) plain.1 last)

module _ (events : List Event) (i : ℕ) (d : Event) (below : i < length events) (s : State) where
  more : take (i + 1) events ≡ take i events ++ get_or events i d ∷ []
  more = take_more events i d below

  pub run_after-more : run_after (take (i + 1) events) s ≡ after (get_or events i d) (run_after (take i events) s)
  run_after-more = ap (λ es. run_after es s) more ∙ run_after-append (take i events) (get_or events i d) s

  pub run_sent-more : run_sent (take (i + 1) events) s
      ≡ run_sent (take i events) s ++ option_to_list (sent (get_or events i d) (run_after (take i events) s))
  run_sent-more = ap (λ es. run_sent es s) more ∙ run_sent-append (take i events) (get_or events i d) s

  pub ArePlain-more : ArePlain (take i events) s → outcome (get_or events i d) (run_after (take i events) s) ≡ Plain
      → ArePlain (take (i + 1) events) s
  ArePlain-more plain last =
      subst (λ es. ArePlain es s) (sym more) (ArePlain-append (take i events) (get_or events i d) s plain last)

-- ---- authority

-- what a stretch keeps of a state, up to a later one, with the bytes that were sent
pub record KeepsAuthority (s later : State) (bytes : List ℕ) : Type 0 where
  pub grows_not : GrowsNot s later
  pub leaves_alone : LeavesAlone s later
  pub silent : IsSilent s bytes

pub KeepsAuthority-none : (s : State) → KeepsAuthority s s []
KeepsAuthority-none s = record { grows_not = GrowsNot-refl s; leaves_alone = LeavesAlone-refl s; silent = λ none. refl }

silent-after : (s t : State) (bytes : List ℕ) (e : Event) → KeepsAuthority s t bytes → IsState t
    → IsSilent s (bytes ++ option_to_list (sent e t))
silent-after s t bytes e keeps is = λ none.
    let nothing : sent e t ≡ None =
    event-silent t is e (λ writable. none (IsWritable-before s t transmit keeps.grows_not writable)) in
    ap (λ b. b ++ option_to_list (sent e t)) (keeps.silent none) ∙ ap option_to_list nothing

pub KeepsAuthority-after : (s t : State) (bytes : List ℕ) (e : Event) → KeepsAuthority s t bytes → IsState t → outcome e t ≡ Plain
    → KeepsAuthority s (after e t) (bytes ++ option_to_list (sent e t))
KeepsAuthority-after s t bytes e keeps is plain = record {
  grows_not = GrowsNot-trans s t (after e t) keeps.grows_not (event-grows_not t is e plain);
  leaves_alone = LeavesAlone-trans s t (after e t) keeps.grows_not keeps.leaves_alone (event-leaves t is e plain);
  silent = silent-after s t bytes e keeps is;
}

-- after each of the first events
abbrev pub KeepsUpTo : List Event → State → ℕ → Type 0
KeepsUpTo events s i = (k : ℕ) → k ≤ i → KeepsAuthority s (run_after (take k events) s) (run_sent (take k events) s)

pub KeepsUpTo-none : (events : List Event) (s : State) → KeepsUpTo events s 0
KeepsUpTo-none events s = λ k few.
    let zero : k ≡ 0 = omega arith in
    subst (λ j. KeepsAuthority s (run_after (take j events) s) (run_sent (take j events) s)) (sym zero) (KeepsAuthority-none s)

pub KeepsUpTo-more : (events : List Event) (i : ℕ) (d : Event) → i < length events → (s : State) → KeepsUpTo events s i
    → IsState (run_after (take i events) s) → outcome (get_or events i d) (run_after (take i events) s) ≡ Plain
    → KeepsUpTo events s (i + 1)
KeepsUpTo-more events i d below s keeps is plain = λ k few. elim (cases_lt i k) [
  | inl last ↦
      let same : k ≡ i + 1 = omega arith in
      let e : Event = get_or events i d in
      let t : State = run_after (take i events) s in
      let bytes : List ℕ = run_sent (take i events) s in
      let step : KeepsAuthority s (after e t) (bytes ++ option_to_list (sent e t)) =
      KeepsAuthority-after s t bytes e (keeps i (omega arith)) is plain in
      subst (λ j. KeepsAuthority s (run_after (take j events) s) (run_sent (take j events) s)) (sym same)
      (subst (λ later. KeepsAuthority s later (run_sent (take (i + 1) events) s)) (sym (run_after-more events i d below s))
      (subst (KeepsAuthority s (after e t)) (sym (run_sent-more events i d below s)) step))
  | inr before ↦ keeps k before
]

-- ---- the clauses at a return

module _ (events : List Event) (s : State) (i done : ℕ) (same : done ≡ i) (keeps : KeepsUpTo events s i) where
  up_to : (k : ℕ) → k ≤ done → KeepsAuthority s (run_after (take k events) s) (run_sent (take k events) s)
  up_to k few = keeps k (omega arith)

  pub rights-kept : (k : ℕ) → k ≤ done → NoNewRights s (run_after (take k events) s)
  rights-kept k few = NoNewRights-grows s (run_after (take k events) s) (up_to k few).grows_not

  pub seals-kept : (k : ℕ) → k ≤ done → NewSealsAllowed s (run_after (take k events) s)
  seals-kept k few = NewSealsAllowed-grows s (run_after (take k events) s) (up_to k few).grows_not

  pub left-kept : (k : ℕ) → k ≤ done → LeavesAlone s (run_after (take k events) s)
  left-kept k few = (up_to k few).leaves_alone

  pub silent-kept : IsSilent s (run_sent (take done events) s)
  silent-kept = (up_to done (omega arith)).silent

-- ---- the next event

module _ (events : List Event) (i : ℕ) (d : Event) (below : i < length events) (t : State) (why : Option Why)
    (told : why ≡ why_of (outcome (get_or events i d) t)) where
  -- it ends the stretch
  ends-some : (w : Why) → why ≡ Some w → EndsBefore (Some w) (drop i events) t
  ends-some w some = subst (λ es. EndsBefore (Some w) es t) (sym (rest events i d below)) (sym told ∙ some)

  some-why : (o : Option Why) → why ≡ o → is_some o ≡ true → EndsBefore o (drop i events) t
  some-why None same some = cc
  some-why (Some w) same some = ends-some w same

  pub ends-before : (done : ℕ) → done ≡ i → is_some why ≡ true → EndsBefore why (drop done events) t
  ends-before done same some = subst (λ j. EndsBefore why (drop j events) t) (sym same) (some-why why refl some)

  -- or it is plain
  module _ (s : State) (reached : t ≡ run_after (take i events) s) where
    no-why : (o : Option Why) → why ≡ o → is_some o ≡ false → why ≡ None
    no-why None same none = same
    no-why (Some w) same none = cc

    pub plain-next : is_some why ≡ false → outcome (get_or events i d) (run_after (take i events) s) ≡ Plain
    plain-next none =
        subst (λ x. outcome (get_or events i d) x ≡ Plain) reached
        (plain-why (outcome (get_or events i d) t) (sym told ∙ no-why why refl none))

    pub state-next : (n : State) → n ≡ after (get_or events i d) t → n ≡ run_after (take (i + 1) events) s
    state-next n met = met ∙ ap (after (get_or events i d)) reached ∙ sym (run_after-more events i d below s)

    pub bytes-next : (bytes out first : List ℕ) → bytes ≡ out ++ option_to_list (sent (get_or events i d) t)
        → out ≡ first ++ run_sent (take i events) s → bytes ≡ first ++ run_sent (take (i + 1) events) s
    bytes-next bytes out first emitted before =
        emitted
        ∙ ap (λ b. b ++ option_to_list (sent (get_or events i d) t)) before
        ∙ append_assoc first (run_sent (take i events) s) (option_to_list (sent (get_or events i d) t))
        ∙ ap (λ x. first ++ (run_sent (take i events) s ++ option_to_list (sent (get_or events i d) x))) reached
        ∙ ap (λ b. first ++ b) (sym (run_sent-more events i d below s))

    pub keeps-next : is_some why ≡ false → IsState t → KeepsUpTo events s i → KeepsUpTo events s (i + 1)
    keeps-next none is keeps = KeepsUpTo-more events i d below s keeps (subst IsState reached is) (plain-next none)
