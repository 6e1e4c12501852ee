-- What commands gave, in order: appended, counted, cut, and one command after the other.
use Rattle.std.proofs.Common.{◌≡◌, ℕ, zero, suc, ◌+◌, ◌-◌, ◌<◌, ◌≤◌, Bool, true, false, List, [], ◌∷◌, ◌++◌, length, take, refl, sym, ap}
use Rattle.std.proofs.Common.{◌∙◌}
use Rattle.std.proofs.Common.{append_assoc, append-nil, length-append, length-set, length-take, get_or, min, replicate, set, take_all}
use Rattle.std.proofs.Common.{arith}
use Rattle.std.proofs.lemmas.List.{length-replicate, take-append-le, take_more, take_more_set}
use Rattle.std.specs.Prelude.{None, nat_le, if◌then◌else◌}
use Rattle.std.proofs.lemmas.Bool.Decides.{nat_tests}
use Rattle.steps.specs.declared.event.Event.{Event}
use Rattle.steps.specs.declared.event.Event.TheVariants as event
use Rattle.past.specs.declared.given.Given.{Given}
use Rattle.past.specs.declared.given.Given.TheVariants.{Steps, Ticks, Byte}
use Rattle.past.specs.Given.{count_of, count_of_one, cut, events_of, events_of_one, first_of, position_after_one, position_of}
use Rattle.past.specs.Giving.{place_after, some_of}
use Rattle.past.specs.Position.{Position, at, events_from, next_event, next_position}
use Rattle.past.proofs.OneByOne.{some_events, some_place, whole_place}

-- ---- appended

pub events_of-append : (xs ys : List Given) (p : Position) → events_of (xs ++ ys) p ≡ events_of xs p ++ events_of ys (position_of xs p)
events_of-append [] ys p = refl
events_of-append (x ∷ xs) ys p =
    ap (λ es. events_of_one x p ++ es) (events_of-append xs ys (position_after_one x p))
    ∙ sym (append_assoc (events_of_one x p) (events_of xs (position_after_one x p)) _)

pub position_of-append : (xs ys : List Given) (p : Position) → position_of (xs ++ ys) p ≡ position_of ys (position_of xs p)
position_of-append [] ys p = refl
position_of-append (x ∷ xs) ys p = position_of-append xs ys (position_after_one x p)

-- one command more
pub one_more : (xs : List Given) (g : Given) (p : Position)
    → events_of (xs ++ g ∷ []) p ≡ events_of xs p ++ events_of_one g (position_of xs p)
one_more xs g p = events_of-append xs (g ∷ []) p ∙ ap (λ es. events_of xs p ++ es) (append-nil (events_of_one g (position_of xs p)))

pub count_of-append : (xs : List Given) (g : Given) → count_of (xs ++ g ∷ []) ≡ count_of xs + count_of_one g
count_of-append [] g = omega arith
count_of-append (x ∷ xs) g = omega (arith, count_of-append xs g)

-- ---- counted

length-events_from : (n : ℕ) (p : Position) → length (events_from n p) ≡ n
length-events_from zero p = refl
length-events_from (suc n) p = ap suc (length-events_from n (next_position p))

pub length-of_one : (g : Given) (p : Position) → length (events_of_one g p) ≡ count_of_one g
length-of_one (Steps n) p = length-events_from n p
length-of_one (Ticks n) p = length-replicate n event.Tick
length-of_one (Byte b) p = refl

pub length-events_of : (gs : List Given) (p : Position) → length (events_of gs p) ≡ count_of gs
length-events_of [] p = refl
length-events_of (g ∷ gs) p =
    omega (
      arith,
      length-append (events_of_one g p) (events_of gs (position_after_one g p)),
      length-of_one g p,
      length-events_of gs (position_after_one g p),
    )

-- ---- the first of them

too_many : (k : ℕ) → suc k ≤ 0 → ⊥
too_many k few = omega arith

-- the first of two lists, one after the other
take-two : {X : Type 0} (n : ℕ) (xs ys : List X) → length xs ≤ n → take n (xs ++ ys) ≡ xs ++ take (n - length xs) ys
take-two n [] ys h =
    let all : n ≡ n - 0 = omega arith in
    ap (λ m. take m ys) all
take-two zero (x ∷ xs) ys h = absurd (too_many (length xs) h)
take-two (suc n) (x ∷ xs) ys h =
    let less : n - length xs ≡ suc n - suc (length xs) = omega arith in
    ap (λ l. x ∷ l) (take-two n xs ys (omega arith) ∙ ap (λ m. xs ++ take m ys) less)

pub first_test : (g : Given) (gs : List Given) (n : ℕ) (b : Bool) → nat_le (count_of_one g) n ≡ b
    → first_of n (g ∷ gs) ≡ (if b then g ∷ first_of (n - count_of_one g) gs else cut n g)
first_test g gs n b e = rw e refl

pub le_from : (m n : ℕ) → nat_le m n ≡ true → m ≤ n
le_from m n h = grind (arith, nat_tests)

pub lt_from : (m n : ℕ) → nat_le m n ≡ false → n < m
lt_from m n h = grind (arith, nat_tests)

cut_events : (n : ℕ) (g : Given) (p : Position) → n < count_of_one g → events_of (cut n g) p ≡ take n (events_of_one g p)
cut_events n (Steps m) p h = append-nil (events_from n p) ∙ steps_first n m p (omega arith)
  where
    steps_first : (n m : ℕ) (p : Position) → n ≤ m → events_from n p ≡ take n (events_from m p)
    steps_first zero m p h = refl
    steps_first (suc n) zero p h = absurd (too_many n h)
    steps_first (suc n) (suc m) p h = ap (λ es. next_event p ∷ es) (steps_first n m (next_position p) (omega arith))
cut_events n (Ticks m) p h = append-nil _ ∙ ticks_first n m (omega arith)
  where
    ticks_first : (n m : ℕ) → n ≤ m → replicate n event.Tick ≡ take n (replicate m event.Tick)
    ticks_first zero m h = refl
    ticks_first (suc n) zero h = absurd (too_many n h)
    ticks_first (suc n) (suc m) h = ap (λ es. event.Tick ∷ es) (ticks_first n m (omega arith))
cut_events zero (Byte b) p h = refl
cut_events (suc n) (Byte b) p h = absurd (omega arith)

-- the events of a command, and the first of those after it
take-whole : (n : ℕ) (g : Given) (p : Position) (rest : List Event) → count_of_one g ≤ n
    → take n (events_of_one g p ++ rest) ≡ events_of_one g p ++ take (n - count_of_one g) rest
take-whole n g p rest h =
    take-two n (events_of_one g p) rest (omega (arith, h, length-of_one g p))
    ∙ ap (λ k. events_of_one g p ++ take (n - k) rest) (length-of_one g p)

take-part : (n : ℕ) (g : Given) (p : Position) (rest : List Event) → n < count_of_one g
    → take n (events_of_one g p ++ rest) ≡ take n (events_of_one g p)
take-part n g p rest h = take-append-le n (events_of_one g p) rest (omega (arith, h, length-of_one g p))

pub first_events : (n : ℕ) (gs : List Given) (p : Position) → events_of (first_of n gs) p ≡ take n (events_of gs p)
first_events zero [] p = refl
first_events (suc n) [] p = refl
first_events n (g ∷ gs) p = go (first_events (n - count_of_one g) gs (position_after_one g p)) (nat_le (count_of_one g) n) refl
  where
    later : List Event
    later = events_of gs (position_after_one g p)

    go : events_of (first_of (n - count_of_one g) gs) (position_after_one g p) ≡ take (n - count_of_one g) later → (b : Bool)
        → nat_le (count_of_one g) n ≡ b → events_of (first_of n (g ∷ gs)) p ≡ take n (events_of_one g p ++ later)
    go others true e =
        ap (λ l. events_of l p) (first_test g gs n true e)
        ∙ ap (λ es. events_of_one g p ++ es) others
        ∙ sym (take-whole n g p (events_of gs (position_after_one g p)) (le_from (count_of_one g) n e))
    go others false e =
        ap (λ l. events_of l p) (first_test g gs n false e)
        ∙ cut_events n g p (lt_from (count_of_one g) n e)
        ∙ sym (take-part n g p (events_of gs (position_after_one g p)) (lt_from (count_of_one g) n e))

-- none of them lead nowhere else
pub none_position : (gs : List Given) (p : Position) → position_of (first_of 0 gs) p ≡ p
none_position [] p = refl
none_position (g ∷ gs) p = go (none_position gs p) (nat_le (count_of_one g) 0) refl
  where
    go : position_of (first_of 0 gs) p ≡ p → (b : Bool) → nat_le (count_of_one g) 0 ≡ b → position_of (first_of 0 (g ∷ gs)) p ≡ p
    go others true e =
        let none : count_of_one g ≡ 0 = omega (arith, le_from (count_of_one g) 0 e) in
        let here : position_after_one g p ≡ p = whole_place g p ∙ ap (λ m. place_after m g p) none in
        ap (λ l. position_of l p) (first_test g gs 0 true e)
        ∙ ap (λ m. position_of (first_of (0 - m) gs) (position_after_one g p)) none
        ∙ ap (position_of (first_of 0 gs)) here ∙ others
    go others false e = ap (λ l. position_of l p) (first_test g gs 0 false e) ∙ some_place 0 g p

-- all of them
pub all_first : (gs : List Given) → first_of (count_of gs) gs ≡ gs
all_first [] = refl
all_first (g ∷ gs) =
    let all : nat_le (count_of_one g) (count_of_one g + count_of gs) ≡ true = grind (arith, nat_tests) in
    let left : count_of_one g + count_of gs - count_of_one g ≡ count_of gs = omega arith in
    first_test g gs (count_of_one g + count_of gs) true all ∙ ap (λ n. g ∷ first_of n gs) left ∙ ap (λ l. g ∷ l) (all_first gs)

-- ---- one command after the other: of the first n events k are of the first command

module _ (k n : ℕ) (g : Given) (gs : List Given) (p : Position) (few : k ≤ n) (some : k ≤ count_of_one g)
    (whole : count_of_one g ≤ n → k ≡ count_of_one g) (part : n ≤ count_of_one g → k ≡ n) where
  pub walk_events : take n (events_of (g ∷ gs) p) ≡ some_of k g p ++ take (n - k) (events_of gs (place_after k g p))
  walk_events = go (nat_le (count_of_one g) n) refl
    where
      rest : List Event
      rest = events_of gs (position_after_one g p)

      go : (b : Bool) → nat_le (count_of_one g) n ≡ b
          → take n (events_of_one g p ++ rest) ≡ some_of k g p ++ take (n - k) (events_of gs (place_after k g p))
      go true e =
          let is : k ≡ count_of_one g = whole (le_from (count_of_one g) n e) in
          let one : events_of_one g p ≡ some_of (count_of_one g) g p =
          sym (take_all (count_of_one g) (events_of_one g p) (omega (arith, length-of_one g p)))
          ∙ some_events (count_of_one g) g p (omega arith) in
          take-whole n g p rest (le_from (count_of_one g) n e)
          ∙ ap (λ es. es ++ take (n - count_of_one g) rest) one
          ∙ ap (λ q. some_of (count_of_one g) g p ++ take (n - count_of_one g) (events_of gs q)) (whole_place g p)
          ∙ ap (λ m. some_of m g p ++ take (n - m) (events_of gs (place_after m g p))) (sym is)
      go false e =
          let less = lt_from (count_of_one g) n e in
          let is : k ≡ n = part (omega (arith, less)) in
          let none : 0 ≡ n - k = omega (arith, is) in
          take-part n g p rest less
          ∙ some_events n g p (omega (arith, less))
          ∙ ap (λ m. some_of m g p) (sym is)
          ∙ sym (append-nil (some_of k g p))
          ∙ ap (λ m. some_of k g p ++ take m (events_of gs (place_after k g p))) none

  pub walk_position : position_of (first_of n (g ∷ gs)) p ≡ position_of (first_of (n - k) gs) (place_after k g p)
  walk_position = go (nat_le (count_of_one g) n) refl
    where
      go : (b : Bool) → nat_le (count_of_one g) n ≡ b
          → position_of (first_of n (g ∷ gs)) p ≡ position_of (first_of (n - k) gs) (place_after k g p)
      go true e =
          let is : k ≡ count_of_one g = whole (le_from (count_of_one g) n e) in
          ap (λ l. position_of l p) (first_test g gs n true e)
          ∙ ap (position_of (first_of (n - count_of_one g) gs)) (whole_place g p)
          ∙ ap (λ m. position_of (first_of (n - m) gs) (place_after m g p)) (sym is)
      go false e =
          let is : k ≡ n = part (omega (arith, lt_from (count_of_one g) n e)) in
          let none : 0 ≡ n - k = omega (arith, is) in
          ap (λ l. position_of l p) (first_test g gs n false e)
          ∙ some_place n g p
          ∙ ap (λ m. place_after m g p) (sym is)
          ∙ sym (none_position gs (place_after k g p))
          ∙ ap (λ m. position_of (first_of m gs) (place_after k g p)) none

-- ---- cut

pub first_count : (n : ℕ) (gs : List Given) → count_of (first_of n gs) ≡ min n (count_of gs)
first_count n gs =
    let p : Position = at None false in
    sym (length-events_of (first_of n gs) p) ∙ ap length (first_events n gs p) ∙ length-take n (events_of gs p)
    ∙ ap (min n) (length-events_of gs p)

-- a command more as a whole
pub first_whole : (n : ℕ) (g : Given) (gs : List Given) → count_of_one g ≤ n → first_of n (g ∷ gs) ≡ g ∷ first_of (n - count_of_one g) gs
first_whole n g gs h =
    let all : nat_le (count_of_one g) n ≡ true = grind (arith, nat_tests) in
    first_test g gs n true all

-- a part of it
pub first_part : (n : ℕ) (g : Given) (gs : List Given) → n < count_of_one g → first_of n (g ∷ gs) ≡ cut n g
first_part n g gs h =
    let part : nat_le (count_of_one g) n ≡ false = grind (arith, nat_tests) in
    first_test g gs n false part

pub count_of-lists : (xs ys : List Given) → count_of (xs ++ ys) ≡ count_of xs + count_of ys
count_of-lists [] ys = omega arith
count_of-lists (x ∷ xs) ys = omega (arith, count_of-lists xs ys)

-- ---- the last

-- what the others and the last count, by the place of the last
pub last_count : (gs : List Given) (i : ℕ) (d : Given) → i + 1 ≡ length gs
    → count_of gs ≡ count_of (take i gs) + count_of_one (get_or gs i d)
last_count gs i d h =
    let all : take (i + 1) gs ≡ gs = take_all (i + 1) gs (omega (arith, h)) in
    ap count_of (sym all ∙ take_more gs i d (omega (arith, h))) ∙ count_of-append (take i gs) (get_or gs i d)

pub last_set : (gs : List Given) (i : ℕ) (g : Given) → i + 1 ≡ length gs → set gs i g ≡ take i gs ++ g ∷ []
last_set gs i g h =
    let all : take (i + 1) (set gs i g) ≡ set gs i g = take_all (i + 1) (set gs i g) (omega (arith, h, length-set gs i g)) in
    sym all ∙ take_more_set gs i g (omega (arith, h))
