-- A run goes on by one event.
use Rattle.std.proofs.Common.{◌≡◌, ℕ, zero, suc, ◌+◌, ◌-◌, ◌<◌, ◌≤◌, Bool, true, false, List, []}
use Rattle.std.proofs.Common.{◌∷◌, ◌++◌, get_or, refl, sym, ap, subst, ◌∙◌, append_assoc}
use Rattle.std.proofs.Common.{arith}
use Rattle.std.specs.Prelude.{Option, None, option_to_list, replicate, length, not, ◌==◌, ◌&&◌, ◌||◌, nat_lt, if◌then◌else◌}
use Rattle.std.proofs.lemmas.Bool.Decides.{nat_tests}
use Rattle.steps.specs.declared.event.Event.{Event}
use Rattle.steps.specs.declared.event.Event.TheVariants.{Step}
use Rattle.steps.specs.State.{State, pc_of}
use Rattle.steps.specs.Outcome.{is_trap}
use Rattle.steps.specs.Steps.{GoesBy}
use Rattle.steps.specs.Event.{after, outcome, sent}
use Rattle.machine.specs.Run.{run_after, run_sent}
use Rattle.schedules.specs.Schedule.{is_halted}
use Rattle.debugger.specs.Stepping.{is_at_end, steps_while}
use Rattle.debugger.specs.Stops.{Ends, is_any_stop, is_end}
use Rattle.sim_run.specs.Stopping.{is_stop as is_trap_met}
use Rattle.sim_run.specs.declared.stopping.StopAt.TheVariants.{Unfetched}
use Rattle.debugger.specs.Lines.{goes_on}

module _ (es : List Event) (e : Event) (rest : List Event) (first : es ≡ e ∷ rest) (s n : State) (step : n ≡ after e s) where
  pub state_goes_on : (all : State) → run_after es s ≡ all → run_after rest n ≡ all
  state_goes_on all whole = ap (run_after rest) step ∙ sym (ap (λ l. run_after l s) first) ∙ whole

  pub bytes_go_on : (bytes out all : List ℕ) → bytes ≡ out ++ option_to_list (sent e s) → out ++ run_sent es s ≡ all
      → bytes ++ run_sent rest n ≡ all
  bytes_go_on bytes out all emitted whole =
      ap (λ b. b ++ run_sent rest n) emitted
      ∙ append_assoc out (option_to_list (sent e s)) (run_sent rest n)
      ∙ ap (λ m. out ++ (option_to_list (sent e s) ++ run_sent rest m)) step
      ∙ sym (ap (λ l. out ++ run_sent l s) first)
      ∙ whole

less_one : (n : ℕ) → suc n - 1 ≡ n
less_one n = omega arith

pub one_of_many : (n : ℕ) (e : Event) → 0 < n → replicate n e ≡ e ∷ replicate (n - 1) e
one_of_many zero e h = absurd (omega arith)
one_of_many (suc n) e h = rw (less_one n) refl

too_many : (k : ℕ) → suc k ≤ 0 → ⊥
too_many k few = omega arith

-- k steps of n, and then the others
pub state_many : (n k : ℕ) (s : State) → k ≤ n
    → run_after (replicate (n - k) Step) (run_after (replicate k Step) s) ≡ run_after (replicate n Step) s
state_many n zero s few =
    let all : n - 0 ≡ n = omega arith in
    ap (λ m. run_after (replicate m Step) s) all
state_many zero (suc k) s few = absurd (too_many k few)
state_many (suc n) (suc k) s few =
    let less : suc n - suc k ≡ n - k = omega arith in
    ap (λ m. run_after (replicate m Step) (run_after (replicate (suc k) Step) s)) less ∙ state_many n k (after Step s) (omega arith)

pub bytes_many : (n k : ℕ) (s : State) → k ≤ n
    → run_sent (replicate k Step) s ++ run_sent (replicate (n - k) Step) (run_after (replicate k Step) s) ≡ run_sent (replicate n Step) s
bytes_many n zero s few =
    let all : n - 0 ≡ n = omega arith in
    ap (λ m. run_sent (replicate m Step) s) all
bytes_many zero (suc k) s few = absurd (too_many k few)
bytes_many (suc n) (suc k) s few =
    let less : suc n - suc k ≡ n - k = omega arith in
    ap (λ m. run_sent (replicate (suc k) Step) s ++ run_sent (replicate m Step) (run_after (replicate (suc k) Step) s)) less
    ∙ append_assoc (option_to_list (sent Step s)) (run_sent (replicate k Step) (after Step s)) _
    ∙ ap (λ bytes. option_to_list (sent Step s) ++ bytes) (bytes_many n k (after Step s) (omega arith))

some_left : (n : ℕ) → nat_lt 0 (suc n) ≡ true
some_left n = grind (arith, nat_tests)

pub if_not : {A : Type 0} (b : Bool) (x y : A) → b ≡ false → (if b then x else y) ≡ y
if_not true x y h = absurd (cc)
if_not false x y h = refl

neither : (l e p : Bool) → l && (not e && not p) ≡ true → (e ≡ false) × (p ≡ false)
neither true false false h = (refl, refl)
neither true false true h = absurd (cc)
neither true true p h = absurd (cc)
neither false e p h = absurd (cc)

either : (l e p : Bool) (x : List Event) → l ≡ true → l && (not e && not p) ≡ false → (if e then [] else (if p then [] else x)) ≡ []
either true true p x is h = refl
either true false true x is h = refl
either true false false x is h = absurd (cc)
either false e p x is h = absurd (cc)

-- how many bytes may still be sent after a step
abbrev pub room_after : ℕ → State → ℕ
room_after room s = room - length (option_to_list (sent Step s))

-- one step more, or none
pub one_step : (first later : Ends) (n room : ℕ) (s m : State) → m ≡ after Step s → goes_on first n room s ≡ true
    → steps_while first later None n room s ≡ Step ∷ steps_while later later None (n - 1) (room_after room s) m
one_step first later zero room s m e h = absurd (cc)
one_step first later (suc n) room s m e h =
    let both = neither (nat_lt 0 (suc n)) (is_at_end None room s) (is_end first s) h in
    if_not (is_at_end None room s) [] _ both.0 ∙ if_not (is_end first s) [] _ both.1
    ∙ ap (λ t. Step ∷ steps_while later later None n (room_after room s) t) (sym e)
    ∙ ap (λ k. Step ∷ steps_while later later None k (room_after room s) m) (sym (less_one n))

pub no_step : (first later : Ends) (n room : ℕ) (s : State) → goes_on first n room s ≡ false
    → steps_while first later None n room s ≡ []
no_step first later zero room s h = refl
no_step first later (suc n) room s h =
    either (nat_lt 0 (suc n)) (is_at_end None room s) (is_end first s) _ (some_left n) h

-- ---- steps of a run towards a stop

by_state : (k : ℕ) (rest : List Event) (s : State) → run_after (replicate k Step ++ rest) s
    ≡ run_after rest (run_after (replicate k Step) s)
by_state zero rest s = refl
by_state (suc k) rest s = by_state k rest (after Step s)

by_bytes : (k : ℕ) (rest : List Event) (s : State) → run_sent (replicate k Step ++ rest) s
    ≡ run_sent (replicate k Step) s ++ run_sent rest (run_after (replicate k Step) s)
by_bytes zero rest s = refl
by_bytes (suc k) rest s =
    ap (λ bytes. option_to_list (sent Step s) ++ bytes) (by_bytes k rest (after Step s))
    ∙ sym (append_assoc (option_to_list (sent Step s)) (run_sent (replicate k Step) (after Step s)) _)

by_count : (k : ℕ) (rest : List Event) → length (replicate k Step ++ rest) ≡ k + length rest
by_count zero rest = omega arith
by_count (suc k) rest = let less = by_count k rest in omega (arith, less)

-- steps that go by all stops don't end before a trap either
neither-end : (stops unfetched trap : Bool) → stops ≡ false → trap ≡ false → (stops || (unfetched && trap)) ≡ false
neither-end stops true trap a b = rw (a, b) refl
neither-end stops false trap a b = rw a refl

none-met : (s : State) → GoesBy None s → is_trap_met Unfetched false s ≡ false
unfolding is_trap_met
none-met s by =
    let plain : is_trap (outcome Step s) ≡ false = ap is_trap by.plain in
    rw plain refl

pub passes : (ends : Ends) (s : State) → GoesBy None s → is_any_stop ends.marks s ≡ false → is_end ends s ≡ false
passes ends s by none =
    neither-end (is_any_stop ends.marks s) ends.unfetched (is_trap_met Unfetched false s) none (none-met s by)

-- a state that steps between two addresses go by
abbrev pub GoesBetween : ℕ → ℕ → State → Type 0
GoesBetween low high s = GoesBy None s × ((low ≤ pc_of s) × (pc_of s < high))

pub positive : (n : ℕ) → (n ≡ 0 → ⊥) → 0 < n
positive zero other = absurd (other refl)
positive (suc n) other = omega arith

not-at-end : (room : ℕ) (s : State) → 0 < room → s.devices.halted ≡ None → is_at_end None room s ≡ false
not-at-end zero s some running = absurd (omega (arith, some))
not-at-end (suc room) s some running = rw (running, not_zero room) refl
  where
    not_zero : (n : ℕ) → (suc n == 0) ≡ false
    not_zero n = grind (arith, nat_tests)

first_nil : (xs ys : List ℕ) → xs ++ ys ≡ [] → xs ≡ []
first_nil [] ys h = refl
first_nil (x ∷ xs) ys h = absurd (cc)

second_nil : (xs ys : List ℕ) → xs ++ ys ≡ [] → ys ≡ []
second_nil [] ys h = h
second_nil (x ∷ xs) ys h = absurd (cc)

same_room : (room : ℕ) (s : State) → option_to_list (sent Step s) ≡ [] → room_after room s ≡ room
same_room room s silent =
    let none : room - 0 ≡ room = omega arith in
    ap (λ (bytes : List ℕ). room - length bytes) silent ∙ none

module _ (ends : Ends) (low high : ℕ) (by : (s : State) → GoesBetween low high s → is_end ends s ≡ false) (room : ℕ) (some : 0 < room)
  where
    steps_by : (n k : ℕ) (s : State) → k ≤ n → run_sent (replicate k Step) s ≡ []
        → ((j : ℕ) → j < k → GoesBetween low high (run_after (replicate j Step) s))
        → steps_while ends ends None n room s
        ≡ replicate k Step ++ steps_while ends ends None (n - k) room (run_after (replicate k Step) s)
    steps_by n zero s few silent goes =
        let all : n - 0 ≡ n = omega arith in
        ap (λ m. steps_while ends ends None m room s) (sym all)
    steps_by zero (suc k) s few silent goes = absurd (too_many k few)
    steps_by (suc n) (suc k) s few silent goes =
        let less : suc n - suc k ≡ n - k = omega arith in
        let now = goes 0 (omega arith) in
        let none = first_nil (option_to_list (sent Step s)) (run_sent (replicate k Step) (after Step s)) silent in
        let later = second_nil (option_to_list (sent Step s)) (run_sent (replicate k Step) (after Step s)) silent in
        if_not (is_at_end None room s) [] _ (not-at-end room s some now.0.running) ∙ if_not (is_end ends s) [] _ (by s now)
        ∙ ap (λ r. Step ∷ steps_while ends ends None n r (after Step s)) (same_room room s none)
        ∙ ap (λ steps. Step ∷ steps)
        (steps_by n k (after Step s) (omega arith) later (λ j below. goes (suc j) (omega arith))
        ∙ ap (λ m. replicate k Step ++ steps_while ends ends None m room (run_after (replicate k Step) (after Step s))) (sym less))

    module _ (n k : ℕ) (s m : State) (few : k ≤ n) (state : m ≡ run_after (replicate k Step) s)
        (silent : run_sent (replicate k Step) s ≡ []) (goes : (j : ℕ) → j < k → GoesBetween low high (run_after (replicate j Step) s)) where
      towards : steps_while ends ends None n room s ≡ replicate k Step ++ steps_while ends ends None (n - k) room m
      towards =
          steps_by n k s few silent goes ∙ ap (λ t. replicate k Step ++ steps_while ends ends None (n - k) room t) (sym state)

      pub state_towards : run_after (steps_while ends ends None (n - k) room m) m ≡ run_after (steps_while ends ends None n room s) s
      state_towards =
          ap (run_after (steps_while ends ends None (n - k) room m)) state
          ∙ sym (by_state k (steps_while ends ends None (n - k) room m) s)
          ∙ ap (λ steps. run_after steps s) (sym towards)

      pub bytes_towards : run_sent (steps_while ends ends None (n - k) room m) m ≡ run_sent (steps_while ends ends None n room s) s
      bytes_towards =
          ap (run_sent (steps_while ends ends None (n - k) room m)) state
          ∙ ap (λ bytes. bytes ++ run_sent (steps_while ends ends None (n - k) room m) (run_after (replicate k Step) s)) (sym silent)
          ∙ sym (by_bytes k (steps_while ends ends None (n - k) room m) s) ∙ ap (λ steps. run_sent steps s) (sym towards)

      pub count_towards : k + length (steps_while ends ends None (n - k) room m) ≡ length (steps_while ends ends None n room s)
      count_towards = sym (by_count k (steps_while ends ends None (n - k) room m)) ∙ ap length (sym towards)

pub some_step : (ends : Ends) (n room : ℕ) (s : State) → goes_on ends n room s ≡ true → 0 < n
some_step ends zero room s h = absurd (cc)
some_step ends (suc n) room s h = omega arith

-- ---- where no step is given

none_of : (b : Bool) → (b && false) ≡ false
none_of true = refl
none_of false = refl

none_halted : (l r e : Bool) → (l && (not (r || true) && not e)) ≡ false
none_halted true true e = refl
none_halted true false e = refl
none_halted false r e = refl

pub none_left : (e : Ends) (left room : ℕ) (s : State) → left ≡ 0 → goes_on e left room s ≡ false
none_left e left room s h = rw h refl

pub none_room : (e : Ends) (left room : ℕ) (s : State) → room ≡ 0 → goes_on e left room s ≡ false
none_room e left room s h = rw h (none_of (nat_lt 0 left))

pub none_after_halt : (e : Ends) (left room : ℕ) (s : State) → is_halted s ≡ true → goes_on e left room s ≡ false
none_after_halt e left room s h = rw h (none_halted (nat_lt 0 left) (room == 0) (is_end e s))
