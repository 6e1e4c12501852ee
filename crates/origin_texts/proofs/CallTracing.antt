-- The events of a schedule: how many they are, and a byte after others, which calls nothing.
use Rattle.std.specs.Prelude.{◌≡◌, ℕ, zero, suc, ◌+◌, ◌*◌, ◌≤◌, ◌<◌, ◌^◌, Bool, true, false, if◌then◌else◌, List, [], ◌∷◌, ◌++◌, length}
use Rattle.std.specs.Prelude.{Option, Some, None, map, option_to_list}
use Rattle.std.proofs.Common.{refl, ap, ap₂, ◌∙◌, append-nil, arith}
use Rattle.std.proofs.lemmas.List.{length-append}
use Rattle.steps.specs.Event.{after}
use Rattle.steps.specs.State.{State, pc_of}
use Rattle.steps.specs.declared.event.Event.{Event}
use Rattle.steps.specs.declared.event.Event.TheVariants.{Byte}
use Rattle.machine.specs.Run.{run_after}
use Rattle.schedules.specs.declared.schedule.Schedule.{Schedule}
use Rattle.schedules.specs.Schedule.{around, byte_before, first_steps, is_halted, is_tick_after, scheduled, up_to_halt, IsRunnable}
use Rattle.symbols.specs.Symbols.{Symbol}
use Rattle.origin_texts.specs.CallTrace.{call_trace}
use Rattle.origin_texts.specs.CallTraceLaws.{call_trace-append, no_line}
use Rattle.origin_texts.specs.Calls.{open_after}
use Rattle.origin_texts.specs.declared.calls.Call.{Call}

-- ---- how many

length-halt : (xs : List Event) (s : State) → length (up_to_halt xs s) ≤ length xs
length-halt [] s = omega arith
length-halt (x ∷ xs) s = go (is_halted (after x s)) (length-halt xs (after x s))
  where
    go : (b : Bool) → length (up_to_halt xs (after x s)) ≤ length xs
        → length (x ∷ (if b then [] else up_to_halt xs (after x s))) ≤ length (x ∷ xs)
    go true few = omega arith
    go false few = omega (arith, few)

length-around : (byte : Option ℕ) (ticks : Bool) → length (around byte ticks) ≤ 3
length-around None true = omega arith
length-around None false = omega arith
length-around (Some b) true = omega arith
length-around (Some b) false = omega arith

length-first : (schedule : Schedule) (input : List ℕ) (n : ℕ) → length (first_steps schedule input n) ≤ 3 * n
length-first schedule input zero = omega arith
length-first schedule input (suc n) =
    let both = length-append (first_steps schedule input n)
    (around (byte_before schedule input (n + 1)) (is_tick_after schedule (n + 1))) in
    let one = length-around (byte_before schedule input (n + 1)) (is_tick_after schedule (n + 1)) in
    let before = length-first schedule input n in
    omega (arith, both, one, before)

pub few_events : (schedule : Schedule) (input : List ℕ) (s : State) → IsRunnable schedule
    → 0 + length (scheduled schedule input s) < 2 ^ 64
few_events schedule input s range =
    let few = length-halt (first_steps schedule input schedule.steps) s in
    let all = length-first schedule input schedule.steps in
    let most = range.steps in
    omega (arith, few, all, most)

-- ---- the schedule of the first steps

byte_before-first : (schedule : Schedule) (input : List ℕ) (k n : ℕ)
    → byte_before (record schedule { steps = k }) input n ≡ byte_before schedule input n
unfolding byte_before
byte_before-first schedule input k n = refl

is_tick_after-first : (schedule : Schedule) (k n : ℕ) → is_tick_after (record schedule { steps = k }) n ≡ is_tick_after schedule n
unfolding is_tick_after
is_tick_after-first schedule k n = refl

first_steps-first : (schedule : Schedule) (input : List ℕ) (k n : ℕ)
    → first_steps (record schedule { steps = k }) input n ≡ first_steps schedule input n
first_steps-first schedule input k zero = refl
first_steps-first schedule input k (suc n) =
    ap₂ (λ es more. es ++ more) (first_steps-first schedule input k n)
    (ap₂ around (byte_before-first schedule input k (n + 1)) (is_tick_after-first schedule k (n + 1)))

pub first_scheduled : (first schedule : Schedule) (input : List ℕ) (k : ℕ) (s : State) → first ≡ record schedule { steps = k }
    → scheduled first input s ≡ up_to_halt (first_steps schedule input k) s
first_scheduled first schedule input k s is =
    ap (λ (f : Schedule). scheduled f input s) is ∙ ap (λ es. up_to_halt es s) (first_steps-first schedule input k k)

-- ---- a byte after events

byte_told : (symbols : List Symbol) (n : ℕ) (calls : List Call) (byte : Option ℕ) (s : State)
    → call_trace symbols n calls (map Byte (option_to_list byte)) s ≡ []
byte_told symbols n calls None s = refl
byte_told symbols n calls (Some b) s =
    append-nil _ ∙ no_line symbols (suc n) (pc_of s) (pc_of (after (Byte b) s)) calls

pub told_then : (symbols : List Symbol) (xs : List Event) (byte : Option ℕ) (s : State)
    → call_trace symbols 0 [] (xs ++ map Byte (option_to_list byte)) s ≡ call_trace symbols 0 [] xs s
told_then symbols xs byte s =
    call_trace-append symbols 0 [] xs (map Byte (option_to_list byte)) s
    ∙ ap (λ more. call_trace symbols 0 [] xs s ++ more)
    (byte_told symbols (0 + length xs) (open_after 0 [] xs s) byte (run_after xs s))
    ∙ append-nil (call_trace symbols 0 [] xs s)
