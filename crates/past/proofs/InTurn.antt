-- The events of commands, one after the other.
use Rattle.std.proofs.Common.{◌≡◌, ℕ, zero, suc, ◌+◌, ◌-◌, ◌<◌, ◌≤◌, List, [], ◌∷◌, ◌++◌}
use Rattle.std.proofs.Common.{length, take, drop, refl, sym, ap, subst, ◌∙◌, arith, append_assoc, append-nil, take_all}
use Rattle.steps.specs.State.{State}
use Rattle.steps.specs.declared.event.Event.{Event}
use Rattle.machine.specs.Run.{run_after}
use Rattle.schedules.proofs.Events.{run_after-append}
use Rattle.past.specs.declared.given.Given.{Given}
use Rattle.past.specs.declared.given.Given.TheVariants.{Steps, Ticks, Byte}
use Rattle.past.specs.Given.{count_of_one, events_of, events_of_one, position_after_one}
use Rattle.past.specs.Giving.{next_of, place_after, place_of, some_of}
use Rattle.past.specs.Position.{Position}
use Rattle.past.proofs.InOrder.{length-of_one}
use Rattle.past.proofs.OneByOne.{one_of_some, one_place, some_events, whole_place}

some_more : (n : ℕ) → suc n ≡ 0 → ⊥
some_more n h = omega arith

-- a command that gave none
pub none_given : (g : Given) (gs : List Given) (p : Position) → count_of_one g ≡ 0 → events_of (g ∷ gs) p ≡ events_of gs p
none_given (Steps zero) gs p h = refl
none_given (Steps (suc n)) gs p h = absurd (some_more n h)
none_given (Ticks zero) gs p h = refl
none_given (Ticks (suc n)) gs p h = absurd (some_more n h)
none_given (Byte b) gs p h = absurd (some_more 0 h)

-- those of the first command are to come
pub one_begun : (g : Given) (gs : List Given) (p : Position)
    → events_of (g ∷ gs) p ≡ some_of (count_of_one g) g p ++ events_of gs (place_after (count_of_one g) g p)
one_begun g gs p =
    let one : events_of_one g p ≡ some_of (count_of_one g) g p =
    sym (take_all (count_of_one g) (events_of_one g p) (omega (arith, length-of_one g p)))
    ∙ some_events (count_of_one g) g p (omega arith) in
    ap (λ es. es ++ events_of gs (position_after_one g p)) one
    ∙ ap (λ q. some_of (count_of_one g) g p ++ events_of gs q) (whole_place g p)

-- the next of them, and the others
pub next_given : (n : ℕ) (g : Given) (gs : List Given) (p : Position) → 0 < n
    → some_of n g p ++ events_of gs (place_after n g p)
    ≡ next_of g p ∷ (some_of (n - 1) g (place_of g p) ++ events_of gs (place_after (n - 1) g (place_of g p)))
next_given n g gs p h =
    ap (λ q. some_of n g p ++ events_of gs q) (one_place n g p h)
    ∙ ap (λ es. es ++ events_of gs (place_after (n - 1) g (place_of g p))) (one_of_some n g p h)

-- ---- so many of them, and the others

length-some : (n : ℕ) (g : Given) (p : Position) → length (some_of n g p) ≡ n
length-some zero g p = refl
length-some (suc n) g p = ap suc (length-some n g (place_of g p))

some_split : (k n : ℕ) (g : Given) (p : Position) → k ≤ n → some_of n g p ≡ some_of k g p ++ some_of (n - k) g (place_after k g p)
some_split zero n g p h =
    let all : n ≡ n - 0 = omega arith in
    ap (λ m. some_of m g p) all
some_split (suc k) zero g p h = absurd (omega arith)
some_split (suc k) (suc n) g p h =
    let less : n - k ≡ suc n - suc k = omega arith in
    ap (λ es. next_of g p ∷ es) (some_split k n g (place_of g p) (omega arith)
    ∙ ap (λ m. some_of k g (place_of g p) ++ some_of m g (place_after k g (place_of g p))) less)

pub place_split : (k n : ℕ) (g : Given) (p : Position) → k ≤ n → place_after n g p ≡ place_after (n - k) g (place_after k g p)
place_split zero n g p h =
    let all : n ≡ n - 0 = omega arith in
    ap (λ m. place_after m g p) all
place_split (suc k) zero g p h = absurd (omega arith)
place_split (suc k) (suc n) g p h =
    let less : n - k ≡ suc n - suc k = omega arith in
    place_split k n g (place_of g p) (omega arith) ∙ ap (λ m. place_after m g (place_after k g (place_of g p))) less

take-front : (xs ys : List Event) → take (length xs) (xs ++ ys) ≡ xs
take-front [] ys = refl
take-front (x ∷ xs) ys = ap (λ l. x ∷ l) (take-front xs ys)

drop-front : (xs ys : List Event) → drop (length xs) (xs ++ ys) ≡ ys
drop-front [] ys = refl
drop-front (x ∷ xs) ys = drop-front xs ys

module _ (k n : ℕ) (g : Given) (gs : List Given) (p : Position) (few : k ≤ n) where
  pub some_given : some_of n g p ++ events_of gs (place_after n g p)
      ≡ some_of k g p ++ (some_of (n - k) g (place_after k g p) ++ events_of gs (place_after (n - k) g (place_after k g p)))
  some_given =
      ap (λ q. some_of n g p ++ events_of gs q) (place_split k n g p few)
      ∙ ap (λ es. es ++ events_of gs (place_after (n - k) g (place_after k g p))) (some_split k n g p few)
      ∙ append_assoc (some_of k g p) (some_of (n - k) g (place_after k g p)) (events_of gs (place_after (n - k) g (place_after k g p)))

  pub first_some : take k (some_of n g p ++ events_of gs (place_after n g p)) ≡ some_of k g p
  first_some =
      ap (take k) some_given
      ∙ subst
      (λ m. take m (some_of k g p ++ (some_of (n - k) g (place_after k g p) ++ events_of gs (place_after (n - k) g (place_after k g p))))
      ≡ some_of k g p) (length-some k g p) (take-front (some_of k g p) _)

  pub others_then : drop k (some_of n g p ++ events_of gs (place_after n g p))
      ≡ some_of (n - k) g (place_after k g p) ++ events_of gs (place_after (n - k) g (place_after k g p))
  others_then =
      ap (drop k) some_given
      ∙ subst
      (λ m. drop m (some_of k g p ++ (some_of (n - k) g (place_after k g p) ++ events_of gs (place_after (n - k) g (place_after k g p))))
      ≡ some_of (n - k) g (place_after k g p) ++ events_of gs (place_after (n - k) g (place_after k g p)))
      (length-some k g p) (drop-front (some_of k g p) _)

-- ---- more of a list

pub take_on : (m n : ℕ) (xs : List Event) → m ≤ n → take n xs ≡ take m xs ++ take (n - m) (drop m xs)
take_on zero n xs h =
    let all : n ≡ n - 0 = omega arith in
    ap (λ k. take k xs) all
take_on (suc m) zero xs h = absurd (omega arith)
take_on (suc m) (suc n) [] h = sym (none (suc n - suc m))
  where
    none : (k : ℕ) → take {A = Event} k [] ≡ []
    none zero = refl
    none (suc k) = refl
take_on (suc m) (suc n) (x ∷ xs) h =
    let less : n - m ≡ suc n - suc m = omega arith in
    ap (λ l. x ∷ l) (take_on m n xs (omega arith) ∙ ap (λ k. take m xs ++ take k (drop m xs)) less)

pub drop_on : (m n : ℕ) (xs : List Event) → drop n (drop m xs) ≡ drop (m + n) xs
drop_on zero n xs =
    let same : n ≡ 0 + n = omega arith in
    ap (λ k. drop k xs) same
drop_on (suc m) n [] = none n ∙ sym (none (suc m + n))
  where
    none : (k : ℕ) → drop {A = Event} k [] ≡ []
    none zero = refl
    none (suc k) = refl
drop_on (suc m) n (x ∷ xs) =
    let less : suc (m + n) ≡ suc m + n = omega arith in
    drop_on m n xs ∙ ap (λ k. drop k (x ∷ xs)) less

pub run_on : (m k n : ℕ) (xs : List Event) (s : State) → m + k ≡ n
    → run_after (take k (drop m xs)) (run_after (take m xs) s) ≡ run_after (take n xs) s
run_on m k n xs s sum =
    let rest : n - m ≡ k = omega (arith, sum) in
    sym (ap (λ es. run_after es s) (take_on m n xs (omega (arith, sum)) ∙ ap (λ j. take m xs ++ take j (drop m xs)) rest)
    ∙ run_after-append (take m xs) (take k (drop m xs)) s)

none_left : (k : ℕ) (xs : List Event) → xs ≡ [] → drop k xs ≡ []
none_left k xs e = ap (drop k) e ∙ none k
  where
    none : (k : ℕ) → drop {A = Event} k [] ≡ []
    none zero = refl
    none (suc k) = refl

none_taken : (k : ℕ) (xs : List Event) → xs ≡ [] → take k xs ≡ []
none_taken k xs e = ap (take k) e ∙ none k
  where
    none : (k : ℕ) → take {A = Event} k [] ≡ []
    none zero = refl
    none (suc k) = refl

-- where no more are left
pub all_dropped : (m n : ℕ) (xs : List Event) → m ≤ n → drop m xs ≡ [] → drop n xs ≡ []
all_dropped m n xs h e =
    let sum : n ≡ m + (n - m) = omega (arith, h) in
    ap (λ k. drop k xs) sum ∙ sym (drop_on m (n - m) xs) ∙ none_left (n - m) (drop m xs) e

pub all_taken : (m n : ℕ) (xs : List Event) → m ≤ n → drop m xs ≡ [] → take m xs ≡ take n xs
all_taken m n xs h e =
    sym (take_on m n xs h ∙ ap (λ l. take m xs ++ l) (none_taken (n - m) (drop m xs) e) ∙ append-nil (take m xs))
