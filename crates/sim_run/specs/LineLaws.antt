-- The lines of some events, and of more after them.
use Rattle.std.specs.Prelude.{◌≡◌, ℕ, zero, suc, ◌+◌, ◌-◌, ◌≤◌, List, [], ◌∷◌, ◌++◌, length, drop, Option}
use Rattle.std.proofs.Common.{refl, sym, ap, ◌∙◌, append_assoc, subst, arith}
use Rattle.std.specs.Io.KnownBytes.{Appends}
use Rattle.std.specs.List.{concat}
use Rattle.std.proofs.lemmas.List.{drop_all}
use Rattle.std.proofs.lemmas.List.Folds.{concat-append}
use Rattle.std.proofs.KnownBytes.{Appends-nil, Appends-trans}
use Rattle.image.specs.BeginningLaws.{beginning_after}
use Rattle.image.specs.Devices.{AppendsBeginning}
use Rattle.steps.specs.declared.event.Event.{Event}
use Rattle.steps.specs.declared.event.Event.TheVariants.{Step, Tick, Byte}
use Rattle.steps.specs.Event.{after}
use Rattle.steps.specs.State.{State}
use Rattle.machine.specs.Run.{run_after}
use Rattle.schedules.specs.Schedule.{steps_in}
use Rattle.sim_run.specs.Trace.{Says, says_of, trace_lines, lines_past}
use Rattle.sim_run.specs.Lines.{MissedLine, WroteLines, calls_failed}
use Rattle.sim_run.specs.declared.traced.Form.{Form}
use Rattle.sim_run.specs.declared.traced.LineFault.{LineFault}

drop-append : {A : Type 0} (n : ℕ) (xs ys : List A) → drop n (xs ++ ys) ≡ drop n xs ++ drop (n - length xs) ys
drop-append zero xs ys =
    let none : 0 - length xs ≡ 0 = omega arith in
    rw none refl
drop-append (suc n) [] ys =
    let all : suc n - 0 ≡ suc n = omega arith in
    rw all refl
drop-append (suc n) (x ∷ xs) ys =
    let less : suc n - suc (length xs) ≡ n - length xs = omega arith in
    rw less (drop-append n xs ys)

pub steps_in-append : (xs ys : List Event) → steps_in (xs ++ ys) ≡ steps_in xs + steps_in ys
steps_in-append [] ys =
    let none : steps_in ys ≡ 0 + steps_in ys = omega arith in
    none
steps_in-append (Step ∷ xs) ys =
    let one : suc (steps_in xs + steps_in ys) ≡ suc (steps_in xs) + steps_in ys = omega arith in
    ap suc (steps_in-append xs ys) ∙ one
steps_in-append (Tick ∷ xs) ys = steps_in-append xs ys
steps_in-append (Byte b ∷ xs) ys = steps_in-append xs ys

pub trace_lines-append : (says : Says) (n : ℕ) (xs ys : List Event) (s : State)
    → trace_lines says n (xs ++ ys) s ≡ trace_lines says n xs s ++ trace_lines says (n + steps_in xs) ys (run_after xs s)
trace_lines-append says n [] ys s =
    let none : n ≡ n + 0 = omega arith in
    ap (λ m. trace_lines says m ys s) none
trace_lines-append says n (Step ∷ xs) ys s =
    let one : n + 1 + steps_in xs ≡ n + suc (steps_in xs) = omega arith in
    ap (λ lines. says (n + 1) s ∷ lines) (trace_lines-append says (n + 1) xs ys (after Step s))
    ∙ ap (λ m. (says (n + 1) s ∷ trace_lines says (n + 1) xs (after Step s))
    ++ trace_lines says m ys (run_after xs (after Step s))) one
trace_lines-append says n (Tick ∷ xs) ys s = trace_lines-append says n xs ys (after Tick s)
trace_lines-append says n (Byte b ∷ xs) ys s = trace_lines-append says n xs ys (after (Byte b) s)

-- a line for each step
pub length_lines : (says : Says) (n : ℕ) (xs : List Event) (s : State) → length (trace_lines says n xs s) ≡ steps_in xs
length_lines says n [] s = refl
length_lines says n (Step ∷ xs) s = ap suc (length_lines says (n + 1) xs (after Step s))
length_lines says n (Tick ∷ xs) s = length_lines says n xs (after Tick s)
length_lines says n (Byte b ∷ xs) s = length_lines says n xs (after (Byte b) s)

pub lines_past-append : (says : Says) (k n : ℕ) (xs ys : List Event) (s : State)
    → lines_past says k n (xs ++ ys) s
    ≡ lines_past says k n xs s ++ lines_past says (k - steps_in xs) (n + steps_in xs) ys (run_after xs s)
lines_past-append says k n xs ys s =
    let lines = trace_lines says n xs s in
    let more = trace_lines says (n + steps_in xs) ys (run_after xs s) in
    ap (λ (all : List (List ℕ)). concat (drop k all)) (trace_lines-append says n xs ys s)
    ∙ ap concat (drop-append k lines more) ∙ concat-append (drop k lines) (drop (k - length lines) more)
    ∙ ap (λ m. concat (drop k lines) ++ concat (drop (k - m) more)) (length_lines says n xs s)

-- none is kept of the first steps
pub no_lines_past : (says : Says) (k n : ℕ) (xs : List Event) (s : State) → steps_in xs ≤ k → lines_past says k n xs s ≡ []
no_lines_past says k n xs s many =
    let all : length (trace_lines says n xs s) ≤ k = rw (length_lines says n xs s) many in
    ap concat (drop_all k (trace_lines says n xs s) all)

-- ---- what a watch wrote

pub wrote_no_line : (says : Says) (k n : ℕ) (s : State) (a : Option (List ℕ)) (m : ℕ) → WroteLines says k n [] s a a m m n
wrote_no_line says k n s a m =
    let none : n ≡ n + 0 = omega arith in
    record { lines = rw (no_lines_past says (k - n) n [] s (omega arith)) (Appends-nil a); failed = refl; count = none }

module _ (says : Says) (k n : ℕ) (xs ys : List Event) (s : State) (a b c : Option (List ℕ)) (m o p n' : ℕ)
    (first : WroteLines says k n xs s a b m o n') where
  left : k - n' ≡ k - n - steps_in xs
  left =
      let count = first.count in
      omega (arith, count)

  pub wrote_more_lines : (n'' : ℕ) → WroteLines says k n' ys (run_after xs s) b c o p n''
      → WroteLines says k n (xs ++ ys) s a c m p n''
  wrote_more_lines n'' later =
      let both = steps_in-append xs ys in
      let one = first.count in
      let two = later.count in
      let more = rw (left, one) at later.lines in
      record {
        lines = subst (Appends a c) (sym (lines_past-append says (k - n) n xs ys s)) (Appends-trans a b c _ _ first.lines more);
        failed = later.failed ∙ first.failed;
        count = omega (arith, both, one, two);
      }

  pub missed_later : (fault : LineFault) → MissedLine fault says k n' ys (run_after xs s) b c o p
      → MissedLine fault says k n (xs ++ ys) s a c m p
  missed_later fault later =
      let one = first.count in
      let more = rw (left, one) at later.lines in
      record {
        lines = subst (λ es. AppendsBeginning a c (lines_past says (k - n) n es s)) (sym (append_assoc xs ys (Step ∷ [])))
            (subst (AppendsBeginning a c) (sym (lines_past-append says (k - n) n xs (ys ++ Step ∷ []) s))
            (beginning_after a b c _ _ first.lines more));
        failed = later.failed ∙ ap (λ q. q + calls_failed fault) first.failed;
      }

-- the events have no line that is kept
pub wrote_skipped : (says : Says) (k n : ℕ) (xs : List Event) (s : State) (a : Option (List ℕ)) (m n' : ℕ)
    → steps_in xs ≤ k - n → n' ≡ n + steps_in xs → WroteLines says k n xs s a a m m n'
wrote_skipped says k n xs s a m n' few count =
    record { lines = rw (no_lines_past says (k - n) n xs s few) (Appends-nil a); failed = refl; count = count }

-- the same of a watch, whose form and count of lines that are left out stay
module _ (xs ys : List Event) (s : State) (f f' : Form) (k k' n n' : ℕ) (a b c : Option (List ℕ)) (m o p : ℕ) (same : f' ≡ f)
    (still : k' ≡ k) (first : WroteLines (says_of f) k n xs s a b m o n') where
  pub wrote_more : (n'' : ℕ) → WroteLines (says_of f') k' n' ys (run_after xs s) b c o p n''
      → WroteLines (says_of f) k n (xs ++ ys) s a c m p n''
  wrote_more n'' later =
      wrote_more_lines (says_of f) k n xs ys s a b c m o p n' first n''
      (subst (λ u. WroteLines (says_of u) k n' ys (run_after xs s) b c o p n'') same
      (subst (λ j. WroteLines (says_of f') j n' ys (run_after xs s) b c o p n'') still later))

  pub missed_more : (fault : LineFault) → MissedLine fault (says_of f') k' n' ys (run_after xs s) b c o p
      → MissedLine fault (says_of f) k n (xs ++ ys) s a c m p
  missed_more fault later =
      missed_later (says_of f) k n xs ys s a b c m o p n' first fault
      (subst (λ u. MissedLine fault (says_of u) k n' ys (run_after xs s) b c o p) same
      (subst (λ j. MissedLine fault (says_of f') j n' ys (run_after xs s) b c o p) still later))
