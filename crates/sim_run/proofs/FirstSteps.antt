-- The first steps of a schedule, and a byte after them.
use Rattle.std.proofs.Common.{◌≡◌, ℕ, zero, suc, ◌+◌, ◌-◌, ◌≤◌, Bool, true, false, List, [], ◌∷◌, ◌++◌, length, drop, refl, sym, ap, ap₂}
use Rattle.std.proofs.Common.{◌∙◌, append_assoc, append-nil, subst, arith}
use Rattle.std.proofs.lemmas.List.{drop-drop, length-drop}
use Rattle.std.specs.List.{concat}
use Rattle.std.specs.Prelude.{Option, Some, None, is_some, max, if◌then◌else◌}
use Rattle.std.specs.Io.KnownBytes.{Appends}
use Rattle.std.proofs.KnownBytes.{Appends-nil}
use Rattle.devices.specs.Devices.{received}
use Rattle.steps.specs.declared.event.Event.{Event}
use Rattle.steps.specs.declared.event.Event.TheVariants.{Step, Tick, Byte}
use Rattle.steps.specs.State.{State}
use Rattle.steps.specs.Event.{after}
use Rattle.machine.specs.declared.end.End.{End}
use Rattle.machine.specs.declared.end.End.TheVariants.{Running}
use Rattle.machine.specs.Run.{run_after, run_sent, end_of, ended}
use Rattle.schedules.specs.declared.schedule.Schedule.{Schedule}
use Rattle.sim_run.specs.declared.traced.TraceFault.{TraceFault}
use Rattle.sim_run.specs.declared.traced.TraceFault.TheVariants.{Output, Trace, Memory}
use Rattle.schedules.specs.Schedule.{around, byte_before, is_tick_after, first_steps, is_halted, scheduled, steps_in, up_to_halt}
use Rattle.schedules.specs.Schedule.{IsCutShort}
use Rattle.sim_run.specs.Trace.{IsTraceCut, Says, trace_lines, lines_past, trace_text, WasCut}
use Rattle.schedules.proofs.Events.{brought, run_after-append, run_sent-append, run_sent-brought, steps_in-append, steps_in-brought}
use Rattle.schedules.proofs.Events.{cut_within}
use Rattle.sim_run.specs.LineLaws.{length_lines, trace_lines-append}

-- ---- the schedule of the first steps

byte_before-first : (schedule : Schedule) (input : List ℕ) (k n : ℕ)
    → byte_before (record schedule { steps = k }) input n ≡ byte_before schedule input n
unfolding byte_before
byte_before-first schedule input k n = refl

is_tick_after-first : (schedule : Schedule) (k n : ℕ) → is_tick_after (record schedule { steps = k }) n ≡ is_tick_after schedule n
unfolding is_tick_after
is_tick_after-first schedule k n = refl

first_steps-first : (schedule : Schedule) (input : List ℕ) (k n : ℕ)
    → first_steps (record schedule { steps = k }) input n ≡ first_steps schedule input n
first_steps-first schedule input k zero = refl
first_steps-first schedule input k (suc n) =
    ap₂ (λ es more. es ++ more) (first_steps-first schedule input k n)
    (ap₂ around (byte_before-first schedule input k (n + 1)) (is_tick_after-first schedule k (n + 1)))

pub first_scheduled : (first schedule : Schedule) (input : List ℕ) (k : ℕ) (s : State) → first ≡ record schedule { steps = k }
    → scheduled first input s ≡ up_to_halt (first_steps schedule input k) s
first_scheduled first schedule input k s is =
    ap (λ (f : Schedule). scheduled f input s) is ∙ ap (λ es. up_to_halt es s) (first_steps-first schedule input k k)

-- ---- how many steps

steps_in-first : (schedule : Schedule) (input : List ℕ) (n : ℕ) → steps_in (first_steps schedule input n) ≡ n
steps_in-first schedule input zero = refl
steps_in-first schedule input (suc n) =
    let both = steps_in-append (first_steps schedule input n)
    (around (byte_before schedule input (n + 1)) (is_tick_after schedule (n + 1))) in
    let one = one_around (byte_before schedule input (n + 1)) (is_tick_after schedule (n + 1)) in
    let before = steps_in-first schedule input n in
    omega (arith, both, one, before)
  where
    one_around : (byte : Option ℕ) (ticks : Bool) → steps_in (around byte ticks) ≡ 1
    one_around None true = refl
    one_around None false = refl
    one_around (Some b) true = refl
    one_around (Some b) false = refl

no_more_steps : (e : Event) (xs ys : List Event) → steps_in xs ≤ steps_in ys → steps_in (e ∷ xs) ≤ steps_in (e ∷ ys)
no_more_steps Step xs ys few = omega (arith, few)
no_more_steps Tick xs ys few = few
no_more_steps (Byte b) xs ys few = few

steps_in-halt : (xs : List Event) (s : State) → steps_in (up_to_halt xs s) ≤ steps_in xs
steps_in-halt [] s = omega arith
steps_in-halt (x ∷ xs) s = go (is_halted (after x s)) (steps_in-halt xs (after x s))
  where
    go : (b : Bool) → steps_in (up_to_halt xs (after x s)) ≤ steps_in xs
        → steps_in (x ∷ (if b then [] else up_to_halt xs (after x s))) ≤ steps_in (x ∷ xs)
    go true few = no_more_steps x [] xs (omega arith)
    go false few = no_more_steps x (up_to_halt xs (after x s)) xs few

no_halt : {P : Type 0} → true ≡ false → P
no_halt e = absurd cc

-- a machine that is not halted has met all
met_all : (xs : List Event) (s : State) → is_halted (run_after (up_to_halt xs s) s) ≡ false → up_to_halt xs s ≡ xs
met_all [] s running = refl
met_all (x ∷ xs) s running = go (is_halted (after x s)) refl running (met_all xs (after x s))
  where
    go : (b : Bool) → is_halted (after x s) ≡ b
        → is_halted (run_after (if b then [] else up_to_halt xs (after x s)) (after x s)) ≡ false
        → (is_halted (run_after (up_to_halt xs (after x s)) (after x s)) ≡ false → up_to_halt xs (after x s) ≡ xs)
        → x ∷ (if b then [] else up_to_halt xs (after x s)) ≡ x ∷ xs
    go true e at later = no_halt (sym e ∙ at)
    go false e at later = ap (λ es. x ∷ es) (later at)

module _ (schedule : Schedule) (input : List ℕ) (m : ℕ) (s : State) where
  pub few_steps : steps_in (up_to_halt (first_steps schedule input m) s) ≤ m
  few_steps =
      let few = steps_in-halt (first_steps schedule input m) s in
      let all = steps_in-first schedule input m in
      omega (arith, few, all)

  pub all_steps : is_halted (run_after (up_to_halt (first_steps schedule input m) s) s) ≡ false
      → steps_in (up_to_halt (first_steps schedule input m) s) ≡ m
  all_steps running = ap steps_in (met_all (first_steps schedule input m) s running) ∙ steps_in-first schedule input m

-- ---- a byte after events

module _ (xs : List Event) (byte : Option ℕ) (s : State) where
  pub state-then : (t u : State) → t ≡ run_after xs s → u ≡ run_after (brought byte) t → u ≡ run_after (xs ++ brought byte) s
  state-then t u there at_byte =
      at_byte ∙ ap (λ v. run_after (brought byte) v) there ∙ sym (run_after-append xs (brought byte) s)

  pub sent-then : (a b : Option (List ℕ)) → Appends a b (run_sent xs s) → Appends a b (run_sent (xs ++ brought byte) s)
  sent-then a b =
      subst (Appends a b)
      (sym (run_sent-append xs (brought byte) s ∙ ap (λ more. run_sent xs s ++ more) (run_sent-brought byte (run_after xs s))
      ∙ append-nil (run_sent xs s)))

  pub steps-then : (n : ℕ) → n ≡ steps_in xs → n ≡ steps_in (xs ++ brought byte)
  steps-then n is =
      let both = steps_in-append xs (brought byte) in
      let none = steps_in-brought byte in
      omega (arith, is, both, none)

  no_lines : (says : Says) (n : ℕ) (byte : Option ℕ) (t : State) → trace_lines says n (brought byte) t ≡ []
  no_lines says n None t = refl
  no_lines says n (Some b) t = refl

  pub lines-then : (says : Says) (k : ℕ) (a b : Option (List ℕ)) → Appends a b (lines_past says k 0 xs s)
      → Appends a b (lines_past says k 0 (xs ++ brought byte) s)
  lines-then says k a b =
      subst (Appends a b)
      (ap (λ (lines : List (List ℕ)). concat (drop k lines))
      (sym (trace_lines-append says 0 xs (brought byte) s
      ∙ ap (λ (more : List (List ℕ)). trace_lines says 0 xs s ++ more) (no_lines says (0 + steps_in xs) byte (run_after xs s))
      ∙ append-nil (trace_lines says 0 xs s))))

  pub cut-then : (u : State) (a b : Option (List ℕ)) → IsCutShort xs s u a b → IsCutShort (xs ++ brought byte) s u a b
  cut-then u a b cut = cut_within [] xs (brought byte) s u a a b (Appends-nil a) cut

  cut-trace-then : (says : Says) (k : ℕ) (u : State) (a b d e : Option (List ℕ)) → IsTraceCut says k 0 xs s u a b d e
      → IsTraceCut says k 0 (xs ++ brought byte) s u a b d e
  cut-trace-then says k u a b d e cut = record {
    done = cut.done;
    rest = cut.rest ++ brought byte;
    order = ap (λ es. es ++ brought byte) cut.order ∙ append_assoc cut.done (Step ∷ cut.rest) (brought byte);
    state = cut.state;
    held = cut.held;
    lines = cut.lines;
  }

  pub traced-then : (says : Says) (k : ℕ) (fault : TraceFault) (u : State) (a b d e : Option (List ℕ))
      → WasCut says fault k 0 xs s u a b d e
      → WasCut says fault k 0 (xs ++ brought byte) s u a b d e
  traced-then says k Output u a b d e cut = record {
    done = cut.done;
    last = cut.last;
    rest = cut.rest ++ brought byte;
    order = ap (λ es. es ++ brought byte) cut.order ∙ append_assoc cut.done (cut.last ∷ cut.rest) (brought byte);
    state = cut.state;
    unwritten = cut.unwritten;
    held = cut.held;
    lines = cut.lines;
  }
  traced-then says k Trace u a b d e cut = cut-trace-then says k u a b d e cut
  traced-then says k Memory u a b d e cut = cut-trace-then says k u a b d e cut

end-byte : (b : ℕ) (s : State) → end_of (after (Byte b) s) ≡ end_of s
unfolding received
end-byte b s = refl

pub end-then : (byte : Option ℕ) (t u : State) (end : End) → u ≡ run_after (brought byte) t → end ≡ end_of t → end ≡ end_of u
end-then None t u end at_byte is = is ∙ ap end_of (sym at_byte)
end-then (Some b) t u end at_byte is = is ∙ sym (end-byte b t) ∙ ap end_of (sym at_byte)

-- ---- a run that ends with its schedule

not-halted : (halted : Option ℕ) → is_some halted ≡ false → halted ≡ None
not-halted None e = refl
not-halted (Some n) e = cc

pub ends-running : (s : State) → is_halted s ≡ false → Running ≡ end_of s
ends-running s running = ap ended (sym (not-halted s.devices.halted running))

-- ---- the lines that a trace leaves out

pub last_kept : (says : Says) (from n skipped steps : ℕ) (events : List Event) (s : State) → skipped ≡ max (from - 1) (steps - n)
    → steps ≡ steps_in events → trace_text says from (Some n) events s ≡ lines_past says skipped 0 events s
last_kept says from n skipped steps events s is count =
    let lines = trace_lines says 0 events s in
    let long : length lines ≡ steps = length_lines says 0 events s ∙ sym count in
    let left = length-drop (from - 1) lines in
    let place : (from - 1) + (length (drop (from - 1) lines) - n) ≡ skipped = omega (arith, long, left, is) in
    ap concat (drop-drop (length (drop (from - 1) lines) - n) (from - 1) lines ∙ ap (λ k. drop k lines) place)
