-- Steps while a place holds a value: one more, or none.
use Rattle.std.proofs.Common.{◌≡◌, ℕ, zero, suc, ◌-◌, ◌<◌, Bool, true, false, not, ◌&&◌, ◌||◌, List, [], ◌∷◌, length, refl, sym}
use Rattle.std.proofs.Common.{ap, ◌∙◌}
use Rattle.std.proofs.Common.{arith}
use Rattle.std.specs.Prelude.{if◌then◌else◌, nat_lt}
use Rattle.std.proofs.lemmas.Bool.Decides.{nat_tests}
use Rattle.cap_bounds.specs.CapValue.{CapValue}
use Rattle.origins.specs.declared.place.Place.{Place}
use Rattle.steps.specs.declared.event.Event.{Event}
use Rattle.steps.specs.State.{State}
use Rattle.steps.specs.Event.{after}
use Rattle.past.specs.Replay.{is_over}
use Rattle.schedules.specs.Schedule.{is_halted}
use Rattle.past.specs.Position.{Position, events_from, next_event, next_position}
use Rattle.debugger.specs.Stepping.{holds, holds_on, is_done, steps_holding}
use Rattle.debugger.proofs.RunSteps.{if_not}

less_one : (n : ℕ) → suc n - 1 ≡ n
less_one n = omega arith

some_left : (n : ℕ) → nat_lt 0 (suc n) ≡ true
some_left n = grind (arith, nat_tests)

goes : (l d h : Bool) → l && (not d && h) ≡ true → (d || not h) ≡ false
goes true false true e = refl
goes true false false e = absurd (cc)
goes true true h e = absurd (cc)
goes false d h e = absurd (cc)

ends : (l d h : Bool) → l ≡ true → l && (not d && h) ≡ false → (d || not h) ≡ true
ends true true h e f = refl
ends true false false e f = refl
ends true false true e f = absurd (cc)
ends false d h e f = absurd (cc)

if_so : {A : Type 0} (b : Bool) (x y : A) → b ≡ true → (if b then x else y) ≡ x
if_so true x y h = refl
if_so false x y h = absurd (cc)

pub one_more : (place : Place) (v : CapValue) (n : ℕ) (p : Position) (s : State) → holds_on place v n p s ≡ true
    → steps_holding place v n p s ≡ next_event p ∷ steps_holding place v (n - 1) (next_position p) (after (next_event p) s)
one_more place v zero p s on = absurd (cc)
one_more place v (suc n) p s on =
    if_not (is_done p s || not (holds place v s)) [] _ (goes (nat_lt 0 (suc n)) (is_done p s) (holds place v s) on)
    ∙ ap (λ k. next_event p ∷ steps_holding place v k (next_position p) (after (next_event p) s)) (sym (less_one n))

pub no_more : (place : Place) (v : CapValue) (n : ℕ) (p : Position) (s : State) → holds_on place v n p s ≡ false
    → steps_holding place v n p s ≡ []
no_more place v zero p s off = refl
no_more place v (suc n) p s off =
    if_so (is_done p s || not (holds place v s)) [] _ (ends (nat_lt 0 (suc n)) (is_done p s) (holds place v s) (some_left n) off)

pub some : (place : Place) (v : CapValue) (n : ℕ) (p : Position) (s : State) → holds_on place v n p s ≡ true → 0 < n
some place v zero p s on = absurd (cc)
some place v (suc n) p s on = omega arith

going : (l d h : Bool) → l && (not d && h) ≡ true → d ≡ false
going true false h e = refl
going true true h e = absurd (cc)
going false d h e = absurd (cc)

not_over : (halted over : Bool) → (halted || over) ≡ false → over ≡ false
not_over false over e = e
not_over true over e = absurd (cc)

pub is_not_over : (place : Place) (v : CapValue) (n : ℕ) (p : Position) (s : State) → holds_on place v n p s ≡ true
    → (is_over p.replay && not p.owed) ≡ false
is_not_over place v n p s on =
    not_over (is_halted s) (is_over p.replay && not p.owed) (going (nat_lt 0 n) (is_done p s) (holds place v s) on)

-- they are those of the position
stream_if : (b : Bool) (es : List Event) (p : Position) → es ≡ events_from (length es) (next_position p)
    → (if b then [] else next_event p ∷ es) ≡ events_from (length (if b then [] else next_event p ∷ es)) p
stream_if true es p same = refl
stream_if false es p same = ap (λ later. next_event p ∷ later) same

pub holding_is_stream : (place : Place) (v : CapValue) (n : ℕ) (p : Position) (s : State)
    → steps_holding place v n p s ≡ events_from (length (steps_holding place v n p s)) p
holding_is_stream place v zero p s = refl
holding_is_stream place v (suc n) p s =
    stream_if (is_done p s || not (holds place v s)) (steps_holding place v n (next_position p) (after (next_event p) s)) p
    (holding_is_stream place v n (next_position p) (after (next_event p) s))
