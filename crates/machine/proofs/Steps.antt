-- Steps one after the other are a run over as many events, and runs in two parts.
use Rattle.std.proofs.Common.{◌≡◌, ℕ, zero, suc, ◌+◌, ◌-◌, ◌<◌, ◌≤◌, List, [], ◌∷◌, ◌++◌, length, get_or, take, drop, replicate, refl, sym}
use Rattle.std.proofs.Common.{ap, subst, ◌∙◌}
use Rattle.std.proofs.Common.{add-one, append_assoc, append-nil, arith}
use Rattle.std.proofs.Math.Seq.{take-length}
use Rattle.std.proofs.lemmas.Bool.Decides.{nat_tests}
use Rattle.std.proofs.lemmas.List.{length-drop}
use Rattle.std.specs.Prelude.{Option, None, Bool, true, ◌==◌, option_to_list}
use Rattle.steps.specs.declared.event.Event.{Event}
use Rattle.steps.specs.declared.event.Event.TheVariants.{Step}
use Rattle.steps.specs.State.{State}
use Rattle.steps.specs.Event.{after, sent}
use Rattle.steps.specs.Step.{stepped, step_sent}
use Rattle.steps.specs.Steps.{steps_after}
use Rattle.machine.specs.Run.{run_after, run_sent}
use Rattle.machine.specs.Steps.{BeginWithSteps}

first-step : (n : ℕ) (s : State) → steps_after n (stepped s) ≡ steps_after (suc n) s
first-step zero s = refl
first-step (suc n) s = ap stepped (first-step n s)

pub run_after-steps : (n : ℕ) (s : State) → run_after (replicate n Step) s ≡ steps_after n s
run_after-steps zero s = refl
run_after-steps (suc n) s = run_after-steps n (stepped s) ∙ first-step n s

-- the first n steps send nothing
abbrev AreSilent : ℕ → State → Type 0
AreSilent n s = (k : ℕ) → k < n → step_sent (steps_after k s) ≡ None

silent-rest : (n : ℕ) (s : State) → AreSilent (suc n) s → AreSilent n (stepped s)
silent-rest n s silent k below = ap step_sent (first-step k s) ∙ silent (suc k) (omega arith)

run_sent-last : (n : ℕ) (s : State) → AreSilent n s → run_sent (replicate (suc n) Step) s ≡ option_to_list (step_sent (steps_after n s))
run_sent-last zero s silent = append-nil (option_to_list (step_sent s))
run_sent-last (suc n) s silent =
    ap (λ byte. option_to_list byte ++ run_sent (replicate (suc n) Step) (stepped s)) (silent 0 (omega arith))
    ∙ run_sent-last n (stepped s) (silent-rest n s silent) ∙ ap (λ t. option_to_list (step_sent t)) (first-step n s)

pub run_sent-none : (n : ℕ) (s : State) → AreSilent n s → run_sent (replicate n Step) s ≡ []
run_sent-none zero s silent = refl
run_sent-none (suc n) s silent =
    ap (λ byte. option_to_list byte ++ run_sent (replicate n Step) (stepped s)) (silent 0 (omega arith))
    ∙ run_sent-none n (stepped s) (silent-rest n s silent)

not_some : 1 ≤ 0 → ⊥
not_some some = omega arith

too_many : (k : ℕ) → suc k ≤ 0 → ⊥
too_many k few = omega arith

none_below : (n : ℕ) → n < 0 → ⊥
none_below n below = omega arith

pub run_sent-steps : (n : ℕ) (s : State) → 1 ≤ n → AreSilent (n - 1) s
    → run_sent (replicate n Step) s ≡ option_to_list (step_sent (steps_after (n - 1) s))
run_sent-steps zero s some silent = absurd (not_some some)
run_sent-steps (suc n) s some silent =
    let one_less : suc n - 1 ≡ n = omega arith in
    run_sent-last n s (rw one_less at silent) ∙ ap (λ k. option_to_list (step_sent (steps_after k s))) (sym one_less)

-- ---- steps among other events

pub BeginWithSteps-take : (k n : ℕ) (es : List Event) → k ≤ n → BeginWithSteps n es → take k es ≡ replicate k Step
BeginWithSteps-take zero n es few begin = refl
BeginWithSteps-take (suc k) zero es few begin = absurd (too_many k few)
BeginWithSteps-take (suc k) (suc n) [] few begin = absurd begin
BeginWithSteps-take (suc k) (suc n) (e ∷ es) few begin =
    ap (λ x. x ∷ take k es) begin.0 ∙ ap (λ rest. Step ∷ rest) (BeginWithSteps-take k n es (omega arith) begin.1)

BeginWithSteps-drop : (k n : ℕ) (es : List Event) → BeginWithSteps n es → BeginWithSteps (n - k) (drop k es)
BeginWithSteps-drop zero n es begin =
    let all : n - 0 ≡ n = omega arith in
    subst (λ m. BeginWithSteps m es) (sym all) begin
BeginWithSteps-drop (suc k) zero es begin =
    let none : zero - suc k ≡ 0 = omega arith in
    subst (λ m. BeginWithSteps m (drop (suc k) es)) (sym none) tt
BeginWithSteps-drop (suc k) (suc n) [] begin = absurd begin
BeginWithSteps-drop (suc k) (suc n) (e ∷ es) begin =
    let less : suc n - suc k ≡ n - k = omega arith in
    subst (λ m. BeginWithSteps m (drop k es)) (sym less) (BeginWithSteps-drop k n es begin.1)

one_more : (n : ℕ) (es : List Event) (d : Event) → n < length es → BeginWithSteps n es → get_or es n d ≡ Step
    → BeginWithSteps (suc n) es
one_more n [] d below begin is = absurd (none_below n below)
one_more zero (e ∷ es) d below begin is = (is, tt)
one_more (suc n) (e ∷ es) d below begin is = (begin.0, one_more n es d (omega arith) begin.1 is)

-- one step more
pub BeginWithSteps-more : (n : ℕ) (es : List Event) (d : Event) → n < length es → BeginWithSteps n es → get_or es n d ≡ Step
    → BeginWithSteps (n + 1) es
BeginWithSteps-more n es d below begin is =
    subst (λ m. BeginWithSteps m es) (sym (add-one n)) (one_more n es d below begin is)

-- ---- a run in two parts

run_after-split : (n : ℕ) (es : List Event) (s : State) → run_after (drop n es) (run_after (take n es) s) ≡ run_after es s
run_after-split zero es s = refl
run_after-split (suc n) [] s = refl
run_after-split (suc n) (e ∷ es) s = run_after-split n es (after e s)

run_sent-split : (n : ℕ) (es : List Event) (s : State)
    → run_sent (take n es) s ++ run_sent (drop n es) (run_after (take n es) s) ≡ run_sent es s
run_sent-split zero es s = refl
run_sent-split (suc n) [] s = refl
run_sent-split (suc n) (e ∷ es) s =
    append_assoc (option_to_list (sent e s)) (run_sent (take n es) (after e s)) _
    ∙ ap (λ bytes. option_to_list (sent e s) ++ bytes) (run_sent-split n es (after e s))

-- what is left of a list after its first k elements, as a slice gives it
pub slice_rest : (k : ℕ) (rest : List Event) → take (length rest - k) (drop k rest) ≡ drop k rest
slice_rest k rest = ap (λ n. take n (drop k rest)) (sym (length-drop k rest)) ∙ take-length (drop k rest)

is_zero : (n : ℕ) → (n == 0) ≡ true → n ≡ 0
is_zero n holds = grind (arith, nat_tests)

length_some : (e : Event) (es : List Event) → length (e ∷ es) ≡ 0 → ⊥
length_some e es none = omega arith

pub none_left : (es : List Event) (empty : Bool) → empty ≡ (length es == 0) → empty ≡ true → es ≡ []
none_left [] empty is holds = refl
none_left (e ∷ es) empty is holds = absurd (length_some e es (is_zero (length (e ∷ es)) (sym is ∙ holds)))

-- the machine m has met the first k of these events, and the others are left
module _ (k : ℕ) (rest left : List Event) (is : left ≡ drop k rest) (s m : State) (met : m ≡ run_after (take k rest) s) where
  pub state_left : (all : State) → run_after rest s ≡ all → run_after left m ≡ all
  state_left all whole =
      ap (λ es. run_after es m) is ∙ ap (run_after (drop k rest)) met ∙ run_after-split k rest s ∙ whole

  pub bytes_left : (byte : Option ℕ) (bytes out all : List ℕ) → bytes ≡ out ++ option_to_list byte
      → run_sent (take k rest) s ≡ option_to_list byte → out ++ run_sent rest s ≡ all → bytes ++ run_sent left m ≡ all
  bytes_left byte bytes out all emitted sent whole =
      ap (λ x. x ++ run_sent left m) (emitted ∙ ap (λ x. out ++ x) (sym sent))
      ∙ ap (λ es. (out ++ run_sent (take k rest) s) ++ run_sent es m) is
      ∙ ap (λ v. (out ++ run_sent (take k rest) s) ++ run_sent (drop k rest) v) met
      ∙ append_assoc out (run_sent (take k rest) s) _
      ∙ ap (λ x. out ++ x) (run_sent-split k rest s) ∙ whole

pub length_left : (k : ℕ) (rest left : List Event) → left ≡ drop k rest → length left ≡ length rest - k
length_left k rest left is = ap (λ (es : List Event). length es) is ∙ length-drop k rest

pub steps_left : (k n m : ℕ) (rest left : List Event) → left ≡ drop k rest → m ≡ n - k → BeginWithSteps n rest → BeginWithSteps m left
steps_left k n m rest left is less begin =
    subst (λ es. BeginWithSteps m es) (sym is) (subst (λ j. BeginWithSteps j (drop k rest)) (sym less) (BeginWithSteps-drop k n rest begin))
