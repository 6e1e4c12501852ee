-- Events of a command, one after the other, and steps alone.
use Rattle.std.proofs.Common.{◌≡◌, ℕ, zero, suc, ◌+◌, ◌-◌, ◌<◌, ◌≤◌, ◌^◌, Bool, true, false, ◌∷◌, take, refl, sym, ap, ◌∙◌, subst}
use Rattle.std.proofs.Common.{arith}
use Rattle.std.specs.Prelude.{Option, Some, None, IfSome, replicate}
use Rattle.steps.specs.declared.event.Event.TheVariants as event
use Rattle.steps.specs.declared.event.Event.TheVariants.{Step}
use Rattle.steps.specs.State.{State}
use Rattle.steps.specs.Event.{after}
use Rattle.machine.specs.Run.{run_after}
use Rattle.past.specs.declared.given.Given.{Given}
use Rattle.past.specs.declared.given.Given.TheVariants.{Steps, Ticks, Byte}
use Rattle.past.specs.Given.{count_of_one, cut, events_of_one, position_after_one, position_of}
use Rattle.past.specs.Giving.{next_of, place_after, place_of, some_of}
use Rattle.past.specs.Position.{MayGive, Position, after_byte_or_step, at, beginning, events_from, next_event, next_position}
use Rattle.past.specs.Position.{position_after}
use Rattle.past.specs.Replay.{ReplayState, byte_due}

less_one : (n : ℕ) → suc n - 1 ≡ n
less_one n = omega arith

-- one of them, and then the others
pub one_of_some : (n : ℕ) (g : Given) (p : Position) → 0 < n → some_of n g p ≡ next_of g p ∷ some_of (n - 1) g (place_of g p)
one_of_some zero g p h = absurd (omega arith)
one_of_some (suc n) g p h = rw (less_one n) refl

pub one_place : (n : ℕ) (g : Given) (p : Position) → 0 < n → place_after n g p ≡ place_after (n - 1) g (place_of g p)
one_place zero g p h = absurd (omega arith)
one_place (suc n) g p h = rw (less_one n) refl

-- ---- steps alone

pub alone_events : (n m : ℕ) → some_of n (Steps m) (at None false) ≡ replicate n Step
alone_events zero m = refl
alone_events (suc n) m = ap (λ es. Step ∷ es) (alone_events n m)

pub alone_place : (n m : ℕ) → place_after n (Steps m) (at None false) ≡ at None false
alone_place zero m = refl
alone_place (suc n) m = alone_place n m

too_many : (k : ℕ) → suc k ≤ 0 → ⊥
too_many k few = omega arith

-- k steps of n, and then the others
pub state_many : (n k : ℕ) (s : State) → k ≤ n
    → run_after (replicate (n - k) Step) (run_after (replicate k Step) s) ≡ run_after (replicate n Step) s
state_many n zero s few =
    let all : n - 0 ≡ n = omega arith in
    ap (λ m. run_after (replicate m Step) s) all
state_many zero (suc k) s few = absurd (too_many k few)
state_many (suc n) (suc k) s few =
    let less : suc n - suc k ≡ n - k = omega arith in
    ap (λ m. run_after (replicate m Step) (run_after (replicate (suc k) Step) s)) less ∙ state_many n k (after Step s) (omega arith)

-- ---- a command's first events are those that come one by one

steps_some : (n m k : ℕ) (p : Position) → n ≤ m → take n (events_from m p) ≡ some_of n (Steps k) p
steps_some zero m k p h = refl
steps_some (suc n) zero k p h = absurd (too_many n h)
steps_some (suc n) (suc m) k p h = ap (λ es. next_event p ∷ es) (steps_some n m k (next_position p) (omega arith))

ticks_some : (n m k : ℕ) (p : Position) → n ≤ m → take n (replicate m event.Tick) ≡ some_of n (Ticks k) p
ticks_some zero m k p h = refl
ticks_some (suc n) zero k p h = absurd (too_many n h)
ticks_some (suc n) (suc m) k p h = ap (λ es. event.Tick ∷ es) (ticks_some n m k p (omega arith))

pub some_events : (n : ℕ) (g : Given) (p : Position) → n ≤ count_of_one g → take n (events_of_one g p) ≡ some_of n g p
some_events n (Steps m) p h = steps_some n m m p h
some_events n (Ticks m) p h = ticks_some n m m p h
some_events zero (Byte b) p h = refl
some_events (suc zero) (Byte b) p h = refl
some_events (suc (suc n)) (Byte b) p h = absurd (omega arith)

steps_place : (n k : ℕ) (p : Position) → position_after n p ≡ place_after n (Steps k) p
steps_place zero k p = refl
steps_place (suc n) k p = steps_place n k (next_position p)

ticks_place : (n k : ℕ) (p : Position) → p ≡ place_after n (Ticks k) p
ticks_place zero k p = refl
ticks_place (suc n) k p = ticks_place n k p

byte_place : (n b : ℕ) (p : Position) → p ≡ place_after n (Byte b) p
byte_place zero b p = refl
byte_place (suc n) b p = byte_place n b p

pub some_place : (n : ℕ) (g : Given) (p : Position) → position_of (cut n g) p ≡ place_after n g p
some_place n (Steps m) p = steps_place n m p
some_place n (Ticks m) p = ticks_place n m p
some_place n (Byte b) p = byte_place n b p

pub whole_place : (g : Given) (p : Position) → position_after_one g p ≡ place_after (count_of_one g) g p
whole_place (Steps m) p = steps_place m m p
whole_place (Ticks m) p = ticks_place m m p
whole_place (Byte b) p = refl

-- ---- how many steps are counted

-- a step more at most
abbrev Counts : Option ReplayState → Option ReplayState → Type 0
Counts old new = (n : ℕ) → IfSome old (λ r. r.done + suc n < 2 ^ 64) → IfSome new (λ r. r.done + n < 2 ^ 64)

same_counts : (replay : Option ReplayState) → Counts replay replay
same_counts None n may = tt
same_counts (Some r) n may = omega (arith, may)

after_due : (due : Option ℕ) (replay : Option ReplayState) (n : ℕ) → MayGive (suc n) (at replay false)
    → MayGive n (after_byte_or_step due replay)
after_due (Some b) None n may = tt
after_due (Some b) (Some r) n may = omega (arith, may)
after_due None None n may = tt
after_due None (Some r) n may = omega (arith, may)

next_counts : (owed : Bool) (replay : Option ReplayState) (n : ℕ) → MayGive (suc n) (at replay owed)
    → MayGive n (next_position (at replay owed))
next_counts true replay n may = same_counts replay n may
next_counts false replay n may = after_due (byte_due replay) replay n may

place_counts : (g : Given) (p : Position) (n : ℕ) → MayGive (suc n) p → MayGive n (place_of g p)
place_counts (Steps m) p n may = next_counts p.owed p.replay n may
place_counts (Ticks m) p n may = same_counts p.replay n may
place_counts (Byte b) p n may = same_counts p.replay n may

fewer : (replay : Option ReplayState) (k n : ℕ) → k ≤ n
    → IfSome replay (λ r. r.done + n < 2 ^ 64) → IfSome replay (λ r. r.done + k < 2 ^ 64)
fewer None k n h may = tt
fewer (Some r) k n h may = omega (arith, h, may)

pub may_fewer : (k n : ℕ) (p : Position) → k ≤ n → MayGive n p → MayGive k p
may_fewer k n p h may = fewer p.replay k n h may

-- after k of n events
pub may_after : (k n : ℕ) (g : Given) (p : Position) → k ≤ n → MayGive n p → MayGive (n - k) (place_after k g p)
may_after zero n g p h may = may_fewer (n - 0) n p (omega arith) may
may_after (suc k) zero g p h may = absurd (too_many k h)
may_after (suc k) (suc n) g p h may =
    let less : suc n - suc k ≡ n - k = omega arith in
    subst (λ m. MayGive m (place_after k g (place_of g p))) (sym less)
    (may_after k n g (place_of g p) (omega arith) (place_counts g p n may))

pub may_begin : (n : ℕ) (replay : Option ReplayState) → n < 2 ^ 64 → MayGive n (beginning replay)
may_begin n None few = tt
may_begin n (Some r) few = omega (arith, few)
