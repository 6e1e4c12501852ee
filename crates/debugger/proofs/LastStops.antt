-- The last place at which a stop holds, one event further.
use Rattle.std.proofs.Common.{◌≡◌, ℕ, zero, suc, ◌+◌, ◌<◌, Bool, true, false, not, ◌&&◌, List, [], ◌∷◌, ◌++◌, take, drop, refl, sym}
use Rattle.std.proofs.Common.{ap, ap₂, ◌∙◌, arith}
use Rattle.std.proofs.lemmas.Bool.Decides.{nat_tests}
use Rattle.std.specs.Prelude.{◌==◌, length, if◌then◌else◌, Option, Some, None, IfSome}
use Rattle.steps.specs.declared.event.Event.{Event}
use Rattle.steps.specs.declared.event.Event.TheVariants.{Step, Tick, Byte}
use Rattle.steps.specs.State.{State}
use Rattle.steps.specs.Event.{after}
use Rattle.machine.specs.Run.{run_after}
use Rattle.schedules.proofs.Events.{run_after-append}
use Rattle.schedules.specs.Schedule.{is_halted}
use Rattle.debugger.specs.Stops.{Mark}
use Rattle.hart.specs.Opening.{opening}
use Rattle.past.specs.Given.{PastState, count_of, past_events}
use Rattle.past.specs.Replay.{ReplayState}
use Rattle.debugger.specs.LastStop.{begin_at_stop, is_stop_before, last_stop, stop_before_now}

-- ---- one event further

drop_one : (k : ℕ) (es xs : List Event) (e : Event) → drop k es ≡ e ∷ xs → drop (suc k) es ≡ xs
drop_one zero [] xs e h = cc
drop_one zero (y ∷ ys) xs e h = cc
drop_one (suc k) [] xs e h = cc
drop_one (suc k) (y ∷ ys) xs e h = drop_one k ys xs e h

take_one : (k : ℕ) (es xs : List Event) (e : Event) → drop k es ≡ e ∷ xs → take (suc k) es ≡ take k es ++ e ∷ []
take_one zero [] xs e h = cc
take_one zero (y ∷ ys) xs e h = cc
take_one (suc k) [] xs e h = cc
take_one (suc k) (y ∷ ys) xs e h = ap (λ l. y ∷ l) (take_one k ys xs e h)

one_more : (k : ℕ) → suc k ≡ k + 1
one_more k = omega arith

-- after k events, of which the next is e
module _ (k : ℕ) (es xs : List Event) (e : Event) (s m : State) (rest : drop k es ≡ e ∷ xs) (state : m ≡ run_after (take k es) s) where
  pub rest_one : drop (k + 1) es ≡ xs
  rest_one = ap (λ n. drop n es) (sym (one_more k)) ∙ drop_one k es xs e rest

  pub state_one : after e m ≡ run_after (take (k + 1) es) s
  state_one =
      ap (after e) state ∙ sym (run_after-append (take k es) (e ∷ []) s)
      ∙ ap (λ l. run_after l s) (sym (take_one k es xs e rest) ∙ ap (λ n. take n es) (one_more k))

  pub last_one : (marks : List Mark) (holds : Bool) → holds ≡ is_stop_before marks e m
      → (if holds then Some k else last_stop marks es s k) ≡ last_stop marks es s (k + 1)
  last_one marks holds is =
      ap (λ b. if b then Some k else last_stop marks es s k) (is ∙ sym (ap₂ (begin_at_stop marks) rest (sym state)))
      ∙ ap (last_stop marks es s) (one_more k)

pub before_more : (last : Option ℕ) (k : ℕ) → IfSome last (λ place. place < k) → IfSome last (λ place. place < k + 1)
before_more None k h = tt
before_more (Some place) k h = omega (arith, h)

-- ---- where none holds

pub halted_nowhere : (marks : List Mark) (e : Event) (s : State) → is_halted s ≡ true → false ≡ is_stop_before marks e s
halted_nowhere marks Step s h = rw h refl
halted_nowhere marks Tick s h = refl
halted_nowhere marks (Byte b) s h = refl

pub others_nowhere : (marks : List Mark) (e : Event) (s : State) → (e ≡ Step → ⊥) → false ≡ is_stop_before marks e s
others_nowhere marks Step s other = absurd (other refl)
others_nowhere marks Tick s other = refl
others_nowhere marks (Byte b) s other = refl

-- ---- no stop

none_before : (e : Event) (s : State) → is_stop_before [] e s ≡ false
none_before Step s = go (not (is_halted s))
  where
    go : (b : Bool) → (b && false) ≡ false
    go true = refl
    go false = refl
none_before Tick s = refl
none_before (Byte b) s = refl

none_begin : (es : List Event) (s : State) → begin_at_stop [] es s ≡ false
none_begin [] s = refl
none_begin (e ∷ es) s = none_before e s

none_last : (es : List Event) (s : State) (n : ℕ) → last_stop [] es s n ≡ None
none_last es s zero = refl
none_last es s (suc n) =
    ap (λ b. if b then Some n else last_stop [] es s n) (none_begin (drop n es) (run_after (take n es) s)) ∙ none_last es s n

no_stop : (marks : List Mark) (es : List Event) (s : State) (n : ℕ) → (length marks == 0) ≡ true → last_stop marks es s n ≡ None
no_stop [] es s n h = none_last es s n
no_stop (x ∷ xs) es s n h = absurd (grind (arith, nat_tests, h))

pub no_stop_before_now : (marks : List Mark) (replay : Option ReplayState) (past : PastState) → (length marks == 0) ≡ true
    → None ≡ stop_before_now marks replay past
unfolding stop_before_now
no_stop_before_now marks replay past h = sym (no_stop marks (past_events past replay) (opening past.image) (count_of past.given) h)
