-- The calls and returns of some events, and of more after them.
use Rattle.std.specs.Prelude.{◌≡◌, ℕ, suc, ◌+◌, nat_lt, false, List, [], ◌∷◌, ◌++◌, length}
use Rattle.std.proofs.Common.{refl, sym, ap, ◌∙◌, append_assoc, append-nil, subst, arith}
use Rattle.std.proofs.lemmas.List.{length-append}
use Rattle.steps.specs.Event.{after}
use Rattle.steps.specs.State.{State, pc_of}
use Rattle.steps.specs.declared.event.Event.{Event}
use Rattle.machine.specs.Run.{run_after}
use Rattle.symbols.specs.Symbols.{Symbol}
use Rattle.origin_texts.specs.CallTrace.{call_trace, event_line}
use Rattle.origin_texts.specs.CallTraced.{WritesCalls, WroteCalls}
use Rattle.origin_texts.specs.Calls.{calls_at, open_after}
use Rattle.origin_texts.specs.declared.calls.Call.{Call}

pub open_after-append : (n : ℕ) (calls : List Call) (xs ys : List Event) (s : State)
    → open_after n calls (xs ++ ys) s ≡ open_after (n + length xs) (open_after n calls xs s) ys (run_after xs s)
open_after-append n calls [] ys s =
    let none : n ≡ n + 0 = omega arith in
    ap (λ m. open_after m calls ys s) none
open_after-append n calls (x ∷ xs) ys s =
    let one : suc n + length xs ≡ n + suc (length xs) = omega arith in
    open_after-append (suc n) (calls_at x (suc n) s calls) xs ys (after x s)
    ∙ ap (λ m. open_after m (open_after n calls (x ∷ xs) s) ys (run_after (x ∷ xs) s)) one

pub call_trace-append : (symbols : List Symbol) (n : ℕ) (calls : List Call) (xs ys : List Event) (s : State)
    → call_trace symbols n calls (xs ++ ys) s
    ≡ call_trace symbols n calls xs s ++ call_trace symbols (n + length xs) (open_after n calls xs s) ys (run_after xs s)
call_trace-append symbols n calls [] ys s =
    let none : n ≡ n + 0 = omega arith in
    ap (λ m. call_trace symbols m calls ys s) none
call_trace-append symbols n calls (x ∷ xs) ys s =
    let one : suc n + length xs ≡ n + suc (length xs) = omega arith in
    let next = calls_at x (suc n) s calls in
    let line = event_line symbols (suc n) (pc_of s) (pc_of (after x s)) (length calls) next in
    ap (λ lines. line ++ lines) (call_trace-append symbols (suc n) next xs ys (after x s))
    ∙ sym (append_assoc line (call_trace symbols (suc n) next xs (after x s)) _)
    ∙ ap (λ m. call_trace symbols n calls (x ∷ xs) s
    ++ call_trace symbols m (open_after n calls (x ∷ xs) s) ys (run_after (x ∷ xs) s)) one

-- what opens no call and ends none writes nothing
same-below : (n : ℕ) → nat_lt n n ≡ false
same-below n = search arith

pub no_line : (symbols : List Symbol) (number from to : ℕ) (calls : List Call)
    → event_line symbols number from to (length calls) calls ≡ []
no_line symbols number from to calls = rw (same-below (length calls)) refl

-- ---- what a watch wrote

pub wrote_no_calls : (symbols : List Symbol) (n : ℕ) (calls : List Call) (s : State) (text : List ℕ)
    → WritesCalls symbols n calls [] s n calls text text
wrote_no_calls symbols n calls s text few =
    let none : n ≡ n + 0 = omega arith in
    record { count = none; calls = refl; lines = sym (append-nil text) }

pub wrote_more_calls : (xs ys : List Event) (s : State) (t t' : List Symbol) (k m n : ℕ) (a b c : List Call) (x y z : List ℕ) → t' ≡ t
    → WritesCalls t k a xs s m b x y → WritesCalls t' m b ys (run_after xs s) n c y z → WritesCalls t k a (xs ++ ys) s n c x z
wrote_more_calls xs ys s t t' k m n a b c x y z same first later few =
    let long : length (xs ++ ys) ≡ length xs + length ys = length-append xs ys in
    let one = first (omega (arith, few, long)) in
    let count = one.count in
    let two = subst (λ u. WroteCalls u m b ys (run_after xs s) n c y z) same (later (omega (arith, few, long, count))) in
    let all = two.count in
    record {
      count = omega (arith, long, count, all);
      calls = two.calls ∙ rw (count, one.calls) (sym (open_after-append k a xs ys s));
      lines = two.lines ∙ rw (count, one.calls, one.lines)
          (append_assoc x (call_trace t k a xs s) _ ∙ ap (λ lines. x ++ lines) (sym (call_trace-append t k a xs ys s)));
    }
