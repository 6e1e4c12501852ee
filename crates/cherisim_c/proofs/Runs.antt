-- A run in two parts: steps that are done in one call with the tick after them, and what is left.
use Rattle.std.proofs.Common.{◌≡◌, ℕ, zero, suc, ◌+◌, ◌-◌, ◌/◌, ◌%◌, ◌<◌, ◌≤◌, Bool, true, false}
use Rattle.std.proofs.Common.{List, [], ◌∷◌, ◌++◌, length, replicate}
use Rattle.std.proofs.Common.{refl, sym, ap, ap₂, ◌∙◌, append_assoc, arith}
use Rattle.std.specs.Prelude.{Option, None, Some, IfSome, is_some, option_to_list, not, ◌==◌, ◌&&◌, if◌then◌else◌}
use Rattle.std.specs.Bool.{then_some}
use Rattle.std.proofs.lemmas.Bool.{cond_both}
use Rattle.std.proofs.lemmas.Bool.Decides.{nat_tests}
use Rattle.cap_bounds.specs.RemainderLaws.{mod-is}
use Rattle.steps.specs.declared.event.Event.{Event}
use Rattle.steps.specs.declared.event.Event.TheVariants.{Step, Tick, Byte}
use Rattle.steps.specs.State.{State, pc_of}
use Rattle.steps.specs.Ends.{why_of}
use Rattle.steps.specs.Event.{after, sent, outcome}
use Rattle.steps.specs.Outcome.{Plain}
use Rattle.steps.specs.Steps.{GoesBy}
use Rattle.machine.specs.Run.{run_after, run_sent}
use Rattle.cherisim_c.specs.declared.types.RunAsked.{RunAsked}
use Rattle.schedules.specs.Schedule.{steps_in, ticks_after}
use Rattle.cherisim_c.specs.Running.{stop_at, is_at_stop, tick_after, end_code, run_from, run_events}
use Rattle.cherisim_c.specs.Walks.{GoesOn, WalksOn, NoTicks, GoesOnFrom}

-- ---- lists of events

run_after-append : (es fs : List Event) (s : State) → run_after (es ++ fs) s ≡ run_after fs (run_after es s)
run_after-append [] fs s = refl
run_after-append (e ∷ es) fs s = run_after-append es fs (after e s)

run_sent-append : (es fs : List Event) (s : State) → run_sent (es ++ fs) s ≡ run_sent es s ++ run_sent fs (run_after es s)
run_sent-append [] fs s = refl
run_sent-append (e ∷ es) fs s =
    ap (λ bytes. option_to_list (sent e s) ++ bytes) (run_sent-append es fs (after e s))
    ∙ sym (append_assoc (option_to_list (sent e s)) (run_sent es (after e s)) _)

steps_in-append : (es fs : List Event) → steps_in (es ++ fs) ≡ steps_in es + steps_in fs
steps_in-append [] fs = omega arith
steps_in-append (Step ∷ es) fs = let more = steps_in-append es fs in omega (arith, more)
steps_in-append (Tick ∷ es) fs = steps_in-append es fs
steps_in-append (Byte b ∷ es) fs = steps_in-append es fs

steps_in-steps : (n : ℕ) → steps_in (replicate n Step) ≡ n
steps_in-steps zero = refl
steps_in-steps (suc n) = ap suc (steps_in-steps n)

steps_in-tick : (a : RunAsked) (number : ℕ) (s : State) → steps_in (tick_after a number s) ≡ 0
steps_in-tick a number s =
    cond_both (ticks_after a.tick number && not (is_some s.devices.halted)) (Tick ∷ []) [] (λ es. steps_in es ≡ 0)
    (λ _. refl) (λ _. refl)

run_sent-tick : (a : RunAsked) (number : ℕ) (s t : State) → run_sent (tick_after a number s) t ≡ []
run_sent-tick a number s t =
    cond_both (ticks_after a.tick number && not (is_some s.devices.halted)) (Tick ∷ []) [] (λ es. run_sent es t ≡ [])
    (λ _. refl) (λ _. refl)

pub append-none : (xs : List ℕ) → xs ++ [] ≡ xs
append-none [] = refl
append-none (x ∷ xs) = ap (λ ys. x ∷ ys) (append-none xs)

empty-first : (xs ys : List ℕ) → xs ++ ys ≡ [] → xs ≡ []
empty-first [] ys e = refl
empty-first (x ∷ xs) ys e = absurd (cc)

empty-second : (xs ys : List ℕ) → xs ++ ys ≡ [] → ys ≡ []
empty-second [] ys e = e
empty-second (x ∷ xs) ys e = absurd (cc)

-- ---- where a run stops

not-first : (b : Bool) (why : ℕ) (later : Option ℕ) → (if b then Some why else later) ≡ None → (b ≡ false) × (later ≡ None)
not-first true why later go = absurd (cc)
not-first false why later go = (refl, go)

is-none : (h : Option ℕ) → is_some h ≡ false → h ≡ None
is-none None none = refl
is-none (Some n) none = absurd (cc)

-- what is asked when steps are left, when the machine runs besides, and when the buffer has room besides
abbrev in_place : RunAsked → State → Option ℕ
in_place a s = if is_at_stop a s then Some 3 else (if a.at_end then end_code a.doors (why_of (outcome Step s)) else None)

abbrev in_running : RunAsked → ℕ → State → Option ℕ
in_running a room s = if room == 0 then Some 2 else in_place a s

abbrev in_time : RunAsked → ℕ → State → Option ℕ
in_time a room s = if is_some s.devices.halted then Some 1 else in_running a room s

module _ (a : RunAsked) (left room : ℕ) (s : State) (go : stop_at a left room s ≡ None) where
  timely : (left == 0 ≡ false) × (in_time a room s ≡ None)
  unfolding stop_at
  timely = not-first (left == 0) 0 (in_time a room s) go

  running : (is_some s.devices.halted ≡ false) × (in_running a room s ≡ None)
  running = not-first (is_some s.devices.halted) 1 (in_running a room s) timely.1

  roomy : (room == 0 ≡ false) × (in_place a s ≡ None)
  roomy = not-first (room == 0) 2 (in_place a s) running.1

  pub some-left : 1 ≤ left
  some-left = grind (arith, nat_tests, timely.0)

  pub still-running : s.devices.halted ≡ None
  still-running = is-none s.devices.halted running.0

  pub some-room : 1 ≤ room
  some-room = grind (arith, nat_tests, roomy.0)

pub nothing : (stop : Option ℕ) (none : Bool) → is_some stop ≡ not none → none ≡ true → stop ≡ None
nothing None none test is = refl
nothing (Some why) true test is = absurd (cc)
nothing (Some why) false test is = absurd (cc)

no-reason : (done halted full there : Bool) (end : Option ℕ)
    → done ≡ false → halted ≡ false → full ≡ false → there ≡ false → end ≡ None
    → (if done then Some 0 else (if halted then Some 1 else (if full then Some 2 else (if there then Some 3 else end)))) ≡ None
no-reason done halted full there end more running space elsewhere on = rw (more, running, space, elsewhere) on

-- nothing stops a run in a state that it goes by
stopless : (a : RunAsked) (left room : ℕ) (s : State) → 1 ≤ left → 1 ≤ room → GoesOn a s → stop_at a left room s ≡ None
unfolding stop_at
stopless a left room s some place on =
    let more : left == 0 ≡ false = grind (arith, nat_tests) in
    let space : room == 0 ≡ false = grind (arith, nat_tests) in
    no-reason (left == 0) (is_some s.devices.halted) (room == 0) (is_at_stop a s) _ more (ap is_some on.running) space on.elsewhere
    (no-end a.at_end s on.no_end)
  where
    no-end : (ends : Bool) (s : State) → (ends ≡ true → outcome Step s ≡ Plain)
        → (if ends then end_code a.doors (why_of (outcome Step s)) else None) ≡ None
    no-end true s plain = ap (λ o. end_code a.doors (why_of o)) (plain refl)
    no-end false s plain = refl

-- a plain step short of the address where a run stops, if it stops at one, is one that the run goes by
pub goes-by : (a : RunAsked) (s : State) → GoesBy (then_some a.at_address a.address) s → GoesOn a s
goes-by a s by = record { running = by.running; elsewhere = not-there a.at_address (pc_of s) by.elsewhere; no_end = λ ends. by.plain }
  where
    apart : (m n : ℕ) → (m ≡ n → ⊥) → m == n ≡ false
    apart m n other = grind (arith, nat_tests, other)

    not-there : (stops : Bool) (pc : ℕ) → IfSome (then_some stops a.address) (λ address. pc ≡ address → ⊥)
        → stops && (pc == a.address) ≡ false
    not-there true pc other = apart pc a.address other
    not-there false pc other = refl

pub silent-before : (count : ℕ) (s : State)
    → run_sent (replicate count Step) s ≡ [] → run_sent (replicate (count - 1) Step) s ≡ []
silent-before zero s silent = refl
silent-before (suc n) s silent = let less : suc n - 1 ≡ n = omega arith in rw less (shorter n s silent)
  where
    shorter : (n : ℕ) (s : State) → run_sent (replicate (suc n) Step) s ≡ [] → run_sent (replicate n Step) s ≡ []
    shorter zero s silent = refl
    shorter (suc m) s silent =
        ap₂ (λ xs ys. xs ++ ys) (empty-first (option_to_list (sent Step s)) _ silent)
        (shorter m (after Step s) (empty-second (option_to_list (sent Step s)) _ silent))

-- ---- ticks

not_zero : (n : ℕ) → 1 ≤ n → (n == 0) ≡ false
not_zero n some = grind (arith, nat_tests)

-- past a multiple, up to the next one, there is none
between_multiples : (m j w : ℕ) → 1 ≤ j → j < w - m % w → ((m + j) % w == 0) ≡ false
between_multiples m j w some few =
    let rest : (m + j) % w ≡ m % w + j = mod-is (m + j) (m % w + j) 0 (m / w) w (omega (arith, few)) (omega arith) in
    rw rest (not_zero (m % w + j) (omega (arith, some)))

and_false : (b : Bool) → b && false ≡ false
and_false true = refl
and_false false = refl

pub no-tick-yet : (a : RunAsked) (before : ℕ) → NoTicks a before (a.tick - before % a.tick)
no-tick-yet a before = λ j some few. rw (between_multiples before j a.tick some few) (and_false (not (a.tick == 0)))

pub no-tick-ever : (a : RunAsked) (before count : ℕ) → a.tick ≡ 0 → NoTicks a before count
no-tick-ever a before count never = λ j some few. rw never refl

-- ---- a run by many steps

-- what a run is after steps, the last of which has this number: the tick, if one comes, and the rest
abbrev onward : RunAsked → ℕ → ℕ → ℕ → State → List Event
onward a number left room u = tick_after a number u ++ run_from a number left room (run_after (tick_after a number u) u)

begun : (a : RunAsked) (before left room : ℕ) (s : State) → stop_at a (suc left) room s ≡ None
    → run_from a before (suc left) room s
    ≡ Step ∷ onward a (before + 1) left (room - length (option_to_list (sent Step s))) (after Step s)
begun a before left room s go = rw go refl

no-tick-here : (a : RunAsked) (number : ℕ) (s : State) → ticks_after a.tick number ≡ false → tick_after a number s ≡ []
no-tick-here a number s none = rw none refl

less-none : (room : ℕ) → room - length {A = ℕ} [] ≡ room
less-none room = omega arith

-- the rest is the same whatever its numbers are written as
onward-same : (a : RunAsked) (m n l k r q : ℕ) (u : State) → m ≡ n → l ≡ k → r ≡ q → onward a m l r u ≡ onward a n k q u
onward-same a m n l k r q u e f g = rw (e, f, g) refl

pub walked : (a : RunAsked) (k before left room : ℕ) (s : State) → suc k ≤ left → NoTicks a before (suc k)
    → stop_at a left room s ≡ None → WalksOn a (suc k) s
    → run_from a before left room s
    ≡ replicate (suc k) Step
    ++ onward a (before + suc k) (left - suc k) (room - length (run_sent (replicate (suc k) Step) s)) (run_after (replicate (suc k) Step) s)
walked a k before zero room s few none go on = absurd (omega (arith, few))
walked a zero before (suc left) room s few none go on =
    begun a before left room s go
    ∙ ap (λ es. Step ∷ es)
    (onward-same a (before + 1) (before + suc zero) left (suc left - suc zero) (room - length (option_to_list (sent Step s)))
    (room - length (run_sent (replicate (suc zero) Step) s)) (after Step s) refl (omega arith)
    (ap (λ bytes. room - length bytes) (sym (append-none (option_to_list (sent Step s))))))
walked a (suc k) before (suc left) room s few none go on =
    begun a before left room s go
    ∙ ap (λ es. Step ∷ es)
    (onward-same a (before + 1) (before + 1) left left (room - length (option_to_list (sent Step s))) room t refl refl
    (ap (λ bytes. room - length bytes) quiet ∙ less-none room)
    ∙ ap (λ es. es ++ run_from a (before + 1) left room (run_after es t)) silence
    ∙ walked a k (before + 1) left room t (omega (arith, few)) (λ j some below. ticks j some below) next later
    ∙ ap (λ es. replicate (suc k) Step ++ es)
    (onward-same a (before + 1 + suc k) (before + suc (suc k)) (left - suc k) (suc left - suc (suc k))
    (room - length (run_sent (replicate (suc k) Step) t)) (room - length (run_sent (replicate (suc (suc k)) Step) s))
    (run_after (replicate (suc k) Step) t) (omega arith) (omega arith)
    (ap (λ bytes. room - length (bytes ++ run_sent (replicate (suc k) Step) t)) (sym quiet))))
  where
    t : State
    t = after Step s

    whole : option_to_list (sent Step s) ++ run_sent (replicate k Step) t ≡ []
    whole = let less : suc (suc k) - 1 ≡ suc k = omega arith in rw less at on.silent

    quiet : option_to_list (sent Step s) ≡ []
    quiet = empty-first (option_to_list (sent Step s)) (run_sent (replicate k Step) t) whole

    ticks : (j : ℕ) → 1 ≤ j → j < suc k → ticks_after a.tick (before + 1 + j) ≡ false
    ticks j some below =
        let sum : before + 1 + j ≡ before + suc j = omega arith in
        rw sum (none (suc j) (omega arith) (omega (arith, below)))

    silence : tick_after a (before + 1) t ≡ []
    silence = no-tick-here a (before + 1) t (none 1 (omega arith) (omega arith))

    next : stop_at a left room t ≡ None
    next = stopless a left room t (omega (arith, few)) (some-room a (suc left) room s go) (on.goes 1 (omega arith) (omega arith))

    later : WalksOn a (suc k) t
    later = record {
      goes = λ j some below. on.goes (suc j) (omega arith) (omega (arith, below));
      silent = let less : suc k - 1 ≡ k = omega arith in rw less (empty-second (option_to_list (sent Step s)) _ whole);
    }

-- ---- what a run comes to, by many steps

module _ (a : RunAsked) (k before left room : ℕ) (byte : Option ℕ) (s u t : State) (few : suc k ≤ left) (none : NoTicks a before (suc k))
    (go : stop_at a left room s ≡ None) (on : WalksOn a (suc k) s) (there : u ≡ run_after (replicate (suc k) Step) s)
    (bytes : run_sent (replicate (suc k) Step) s ≡ option_to_list byte)
    (passed : t ≡ run_after (tick_after a (before + suc k) u) u) where
  abbrev rest : List Event
  rest = run_from a (before + suc k) (left - suc k) (room - length (option_to_list byte)) t

  parts : run_from a before left room s ≡ replicate (suc k) Step ++ (tick_after a (before + suc k) u ++ rest)
  parts =
      walked a k before left room s few none go on
      ∙ ap (λ v. replicate (suc k) Step ++ onward a (before + suc k) (left - suc k)
      (room - length (run_sent (replicate (suc k) Step) s)) v) (sym there)
      ∙ ap (λ b. replicate (suc k) Step ++ onward a (before + suc k) (left - suc k) (room - length b) u) bytes
      ∙ ap (λ v. replicate (suc k) Step ++ (tick_after a (before + suc k) u
      ++ run_from a (before + suc k) (left - suc k) (room - length (option_to_list byte)) v)) (sym passed)

  state : run_after (run_from a before left room s) s ≡ run_after rest t
  state =
      ap (λ es. run_after es s) parts
      ∙ run_after-append (replicate (suc k) Step) (tick_after a (before + suc k) u ++ rest) s
      ∙ ap (run_after (tick_after a (before + suc k) u ++ rest)) (sym there)
      ∙ run_after-append (tick_after a (before + suc k) u) rest u
      ∙ ap (run_after rest) (sym passed)

  sent-by : run_sent (run_from a before left room s) s ≡ option_to_list byte ++ run_sent rest t
  sent-by =
      ap (λ es. run_sent es s) parts
      ∙ run_sent-append (replicate (suc k) Step) (tick_after a (before + suc k) u ++ rest) s
      ∙ ap (λ b. b ++ run_sent (tick_after a (before + suc k) u ++ rest) (run_after (replicate (suc k) Step) s)) bytes
      ∙ ap (λ v. option_to_list byte ++ run_sent (tick_after a (before + suc k) u ++ rest) v) (sym there)
      ∙ ap (λ b. option_to_list byte ++ b)
      (run_sent-append (tick_after a (before + suc k) u) rest u
      ∙ ap (λ b. b ++ run_sent rest (run_after (tick_after a (before + suc k) u) u)) (run_sent-tick a (before + suc k) u u)
      ∙ ap (run_sent rest) (sym passed))

  steps : steps_in (run_from a before left room s) ≡ suc k + steps_in rest
  steps =
      let whole = ap steps_in parts in
      let first = steps_in-append (replicate (suc k) Step) (tick_after a (before + suc k) u ++ rest) in
      let done = steps_in-steps (suc k) in
      let second = steps_in-append (tick_after a (before + suc k) u) rest in
      let tick = steps_in-tick a (before + suc k) u in
      omega (arith, whole, first, done, second, tick)

  goes-on : GoesOnFrom a before left room (suc k) byte s t
  goes-on = record { state = state; sent = sent-by; steps = steps }

pub goes_on_from : (a : RunAsked) (count before left room : ℕ) (byte : Option ℕ) (s u t : State) → 1 ≤ count → count ≤ left
    → NoTicks a before count → stop_at a left room s ≡ None → WalksOn a count s → u ≡ run_after (replicate count Step) s
    → run_sent (replicate count Step) s ≡ option_to_list byte → t ≡ run_after (tick_after a (before + count) u) u
    → GoesOnFrom a before left room count byte s t
goes_on_from a zero before left room byte s u t some few none go on there bytes passed = absurd (omega (arith, some))
goes_on_from a (suc k) before left room byte s u t some few none go on there bytes passed =
    goes-on a k before left room byte s u t few none go on there bytes passed

-- ---- the loop of a run

-- what is left of a run where so many steps and so many bytes are
abbrev pub left_over : RunAsked → ℕ → ℕ → State → List Event
left_over a left room s = run_from a (a.before + (a.steps - left)) left room s

pub all-left : (a : RunAsked) (room : ℕ) (s : State) → left_over a a.steps room s ≡ run_events a room s
all-left a room s = let none : a.before + (a.steps - a.steps) ≡ a.before = omega arith in rw none refl

ended : (stop : Option ℕ) (none : Bool) → is_some stop ≡ not none → none ≡ false → is_some stop ≡ true
ended stop none test is = rw is at test

pub none-left : (a : RunAsked) (left room : ℕ) (s : State) (stop : Option ℕ) (none : Bool) → stop ≡ stop_at a left room s
    → is_some stop ≡ not none → none ≡ false → left_over a left room s ≡ []
none-left a zero room s stop none same test is = refl
none-left a (suc left) room s stop none same test is =
    let over : is_some (stop_at a (suc left) room s) ≡ true = sym (ap is_some same) ∙ ended stop none test is in
    rw over refl

pub at-most-one : (byte : Option ℕ) → length (option_to_list byte) ≤ 1
at-most-one None = omega arith
at-most-one (Some b) = omega arith

module _ (a : RunAsked) (left k room less more : ℕ) (byte : Option ℕ) (s t : State) (few : left ≤ a.steps) (done : k ≤ left)
    (on : GoesOnFrom a (a.before + (a.steps - left)) left room k byte s t) (fewer : less ≡ left - k)
    (smaller : more ≡ room - length (option_to_list byte)) where
  same-rest : left_over a less more t
      ≡ run_from a (a.before + (a.steps - left) + k) (left - k) (room - length (option_to_list byte)) t
  same-rest =
      let number : a.before + (a.steps - (left - k)) ≡ a.before + (a.steps - left) + k = omega (arith, few, done) in
      rw (fewer, smaller, number) refl

  pub loop-state : (all : State) → run_after (left_over a left room s) s ≡ all → run_after (left_over a less more t) t ≡ all
  loop-state all whole = ap (λ es. run_after es t) same-rest ∙ sym on.state ∙ whole

  pub loop-sent : (out new all : List ℕ) → new ≡ out ++ option_to_list byte → out ++ run_sent (left_over a left room s) s ≡ all
      → new ++ run_sent (left_over a less more t) t ≡ all
  loop-sent out new all put whole =
      ap₂ (λ xs es. xs ++ run_sent es t) put same-rest
      ∙ append_assoc out (option_to_list byte) _
      ∙ ap (λ bytes. out ++ bytes) (sym on.sent)
      ∙ whole

  pub loop-steps : (all : ℕ) → (a.steps - left) + steps_in (left_over a left room s) ≡ all
      → (a.steps - less) + steps_in (left_over a less more t) ≡ all
  loop-steps all whole =
      let rest = same-rest in
      let counted = on.steps in
      let there = ap steps_in rest in
      omega (arith, few, done, fewer, counted, there, whole)
