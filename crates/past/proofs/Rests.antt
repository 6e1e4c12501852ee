-- What is left of commands after their first events comes after these.
use Rattle.std.proofs.Common.{◌≡◌, ℕ, zero, suc, ◌+◌, ◌-◌, ◌<◌, ◌≤◌, Bool, true, false, List, [], ◌∷◌, ◌++◌, length, take, drop, refl, sym}
use Rattle.std.proofs.Common.{ap, ap₂, ◌∙◌, subst, arith}
use Rattle.std.specs.Prelude.{nat_le, if◌then◌else◌}
use Rattle.steps.specs.State.{State}
use Rattle.steps.specs.declared.event.Event.{Event}
use Rattle.machine.specs.Run.{run_after}
use Rattle.past.specs.declared.given.Given.{Given}
use Rattle.past.specs.declared.given.Given.TheVariants.{Steps, Ticks, Byte}
use Rattle.past.specs.Given.{count_of, count_of_one, cut, events_of, events_of_one, first_of, position_after_one, position_of}
use Rattle.past.specs.Giving.{after_first, place_after, place_of, next_of, rest_of, some_of}
use Rattle.past.specs.Position.{MayGive, Position}
use Rattle.past.proofs.InOrder.{first_part, first_test, first_whole, le_from, length-of_one, lt_from, none_position, walk_position}
use Rattle.past.proofs.InTurn.{one_begun, others_then, place_split, run_on}
use Rattle.past.proofs.OneByOne.{may_after, may_fewer, some_place, whole_place}

-- ---- of a command

some_rest : (k n : ℕ) (g : Given) (p : Position) → some_of k (rest_of n g) p ≡ some_of k g p
some_rest zero n g p = refl
some_rest (suc k) n (Steps m) p = ap (λ es. next_of (Steps m) p ∷ es) (some_rest k n (Steps m) (place_of (Steps m) p))
some_rest (suc k) n (Ticks m) p = ap (λ es. next_of (Ticks m) p ∷ es) (some_rest k n (Ticks m) (place_of (Ticks m) p))
some_rest (suc k) n (Byte b) p = refl

place_rest : (k n : ℕ) (g : Given) (p : Position) → place_after k (rest_of n g) p ≡ place_after k g p
place_rest zero n g p = refl
place_rest (suc k) n (Steps m) p = place_rest k n (Steps m) (place_of (Steps m) p)
place_rest (suc k) n (Ticks m) p = place_rest k n (Ticks m) (place_of (Ticks m) p)
place_rest (suc k) n (Byte b) p = refl

count_rest : (n : ℕ) (g : Given) → n < count_of_one g → count_of_one (rest_of n g) ≡ count_of_one g - n
count_rest n (Steps m) h = refl
count_rest n (Ticks m) h = refl
count_rest n (Byte b) h = omega (arith, h)

-- ---- of commands

after_test : (g : Given) (gs : List Given) (n : ℕ) (b : Bool) → nat_le (count_of_one g) n ≡ b
    → after_first n (g ∷ gs) ≡ (if b then after_first (n - count_of_one g) gs else rest_of n g ∷ gs)
after_test g gs n b e = rw e refl

drop-two : (n : ℕ) (xs ys : List Event) → length xs ≤ n → drop n (xs ++ ys) ≡ drop (n - length xs) ys
drop-two n [] ys h =
    let all : n ≡ n - 0 = omega arith in
    ap (λ m. drop m ys) all
drop-two zero (x ∷ xs) ys h = absurd (omega arith)
drop-two (suc n) (x ∷ xs) ys h =
    let less : n - length xs ≡ suc n - suc (length xs) = omega arith in
    drop-two n xs ys (omega arith) ∙ ap (λ m. drop m ys) less

-- they give the events after the first ones
pub rest_events : (n : ℕ) (gs : List Given) (p : Position)
    → events_of (after_first n gs) (position_of (first_of n gs) p) ≡ drop n (events_of gs p)
rest_events zero [] p = refl
rest_events (suc n) [] p = refl
rest_events n (g ∷ gs) p = go (rest_events (n - count_of_one g) gs (position_after_one g p)) (nat_le (count_of_one g) n) refl
  where
    later : List Event
    later = events_of gs (position_after_one g p)

    go : events_of (after_first (n - count_of_one g) gs) (position_of (first_of (n - count_of_one g) gs) (position_after_one g p))
        ≡ drop (n - count_of_one g) later → (b : Bool) → nat_le (count_of_one g) n ≡ b
        → events_of (after_first n (g ∷ gs)) (position_of (first_of n (g ∷ gs)) p) ≡ drop n (events_of_one g p ++ later)
    go others true e =
        ap₂ (λ l m. events_of l (position_of m p)) (after_test g gs n true e) (first_test g gs n true e)
        ∙ others
        ∙ sym (drop-two n (events_of_one g p) later (omega (arith, le_from (count_of_one g) n e, length-of_one g p))
        ∙ ap (λ k. drop (n - k) later) (length-of_one g p))
    go others false e =
        let less = lt_from (count_of_one g) n e in
        let q = place_after n g p in
        ap₂ (λ l m. events_of l (position_of m p)) (after_test g gs n false e) (first_test g gs n false e)
        ∙ ap (events_of (rest_of n g ∷ gs)) (some_place n g p)
        ∙ one_begun (rest_of n g) gs q
        ∙ ap₂ (λ es r. es ++ events_of gs r)
        (some_rest (count_of_one (rest_of n g)) n g q) (place_rest (count_of_one (rest_of n g)) n g q)
        ∙ ap (λ k. some_of k g q ++ events_of gs (place_after k g q)) (count_rest n g less)
        ∙ sym (others_then n (count_of_one g) g gs p (omega (arith, less)))
        ∙ ap (drop n) (sym (one_begun g gs p))

-- and their first events lead where as many more of all lead
pub rest_position : (k n : ℕ) (gs : List Given) (p : Position)
    → position_of (first_of k (after_first n gs)) (position_of (first_of n gs) p) ≡ position_of (first_of (n + k) gs) p
rest_position k n [] p = refl
rest_position k n (g ∷ gs) p = go (rest_position k (n - count_of_one g) gs (position_after_one g p)) (nat_le (count_of_one g) n) refl
  where
    c : ℕ
    c = count_of_one g

    -- so many of the command's own, j of them
    part : (j : ℕ) → n < c → j ≤ k → j ≤ c - n → (c - n ≤ k → j ≡ c - n) → (k ≤ c - n → j ≡ k)
        → position_of (first_of k (rest_of n g ∷ gs)) (place_after n g p) ≡ position_of (first_of (n + k) (g ∷ gs)) p
    part j less few some whole all =
        let count = count_rest n g less in
        let left : k - j ≡ n + k - (n + j) = omega arith in
        let own : n + j - n ≡ j = omega arith in
        walk_position j k (rest_of n g) gs (place_after n g p) few
        (omega (arith, some, count))
        (λ h. whole (omega (arith, h, count)) ∙ sym count) (λ h. all (omega (arith, h, count)))
        ∙ ap₂ (λ m q. position_of (first_of m gs) q) left
        (place_rest j n g (place_after n g p) ∙ ap (λ i. place_after i g (place_after n g p)) (sym own)
        ∙ sym (place_split n (n + j) g p (omega arith)))
        ∙ sym (walk_position (n + j) (n + k) g gs p (omega (arith, few)) (omega (arith, some, less))
        (λ h. omega (arith, whole (omega (arith, h, less)), less)) (λ h. omega (arith, all (omega (arith, h, less)))))

    either : n < c → (b : Bool) → nat_le (c - n) k ≡ b
        → position_of (first_of k (rest_of n g ∷ gs)) (place_after n g p) ≡ position_of (first_of (n + k) (g ∷ gs)) p
    either less true e =
        let few = le_from (c - n) k e in
        part (c - n) less few (omega arith) (λ h. refl) (λ h. omega (arith, h, few))
    either less false e =
        let few = lt_from (c - n) k e in
        part k less (omega arith) (omega (arith, few)) (λ h. omega (arith, h, few)) (λ h. refl)

    go : position_of (first_of k (after_first (n - c) gs)) (position_of (first_of (n - c) gs) (position_after_one g p))
        ≡ position_of (first_of (n - c + k) gs) (position_after_one g p) → (b : Bool) → nat_le c n ≡ b
        → position_of (first_of k (after_first n (g ∷ gs)))
        (position_of (first_of n (g ∷ gs)) p)
        ≡ position_of (first_of (n + k) (g ∷ gs)) p
    go others true e =
        let few = le_from c n e in
        let more : n - c + k ≡ n + k - c = omega (arith, few) in
        ap₂ (λ l m. position_of (first_of k l) (position_of m p)) (after_test g gs n true e) (first_test g gs n true e)
        ∙ others
        ∙ ap (λ m. position_of (first_of m gs) (position_after_one g p)) more
        ∙ ap (λ l. position_of l p) (sym (first_whole (n + k) g gs (omega (arith, few))))
    go others false e =
        let less = lt_from c n e in
        ap₂ (λ l m. position_of (first_of k l) (position_of m p)) (after_test g gs n false e) (first_test g gs n false e)
        ∙ ap (position_of (first_of k (rest_of n g ∷ gs))) (some_place n g p)
        ∙ either less (nat_le (c - n) k) refl

-- ---- after the first n events k more may be given

pub may_rest : (k n : ℕ) (gs : List Given) (p : Position) → MayGive (n + k) p → MayGive k (position_of (first_of n gs) p)
may_rest k n [] p may = may_fewer k (n + k) p (omega arith) may
may_rest k n (g ∷ gs) p may = go (may_rest k (n - count_of_one g) gs (position_after_one g p)) (nat_le (count_of_one g) n) refl
  where
    go : (MayGive (n - count_of_one g + k) (position_after_one g p)
        → MayGive k (position_of (first_of (n - count_of_one g) gs) (position_after_one g p)))
        → (b : Bool) → nat_le (count_of_one g) n ≡ b → MayGive k (position_of (first_of n (g ∷ gs)) p)
    go others true e =
        let few = le_from (count_of_one g) n e in
        let left : n + k - count_of_one g ≡ n - count_of_one g + k = omega (arith, few) in
        subst (λ l. MayGive k (position_of l p)) (sym (first_test g gs n true e))
        (others
        (subst (MayGive (n - count_of_one g + k)) (sym (whole_place g p))
        (subst (λ m. MayGive m (place_after (count_of_one g) g p)) left (may_after (count_of_one g) (n + k) g p (omega (arith, few)) may))))
    go others false e =
        let left : n + k - n ≡ k = omega arith in
        subst (λ l. MayGive k (position_of l p)) (sym (first_test g gs n false e))
        (subst (MayGive k) (sym (some_place n g p))
        (subst (λ m. MayGive m (place_after n g p)) left (may_after n (n + k) g p (omega arith) may)))

-- ---- a machine after the first events, and then after k more

pub state_rest : (k n : ℕ) (gs : List Given) (p : Position) (s : State)
    → run_after (take k (events_of (after_first n gs) (position_of (first_of n gs) p))) (run_after (take n (events_of gs p)) s)
    ≡ run_after (take (n + k) (events_of gs p)) s
state_rest k n gs p s =
    ap (λ es. run_after (take k es) (run_after (take n (events_of gs p)) s)) (rest_events n gs p)
    ∙ run_on n k (n + k) (events_of gs p) s refl

-- ---- the first events of the first, and of more

pub first_first : (a n : ℕ) (gs : List Given) → a ≤ n → first_of a (first_of n gs) ≡ first_of a gs
first_first a n [] h = refl
first_first a n (g ∷ gs) h = go (first_first (a - count_of_one g) (n - count_of_one g) gs) (nat_le (count_of_one g) n) refl
  where
    c : ℕ
    c = count_of_one g

    Others : Type 0
    Others = a - c ≤ n - c → first_of (a - c) (first_of (n - c) gs) ≡ first_of (a - c) gs

    cut_cut : (f : Given) → n < count_of_one f → first_of a (cut n f) ≡ cut a f
    cut_cut (Steps m) less = one (nat_le n a) refl
      where
        one : (b : Bool) → nat_le n a ≡ b → first_of a (Steps n ∷ []) ≡ Steps a ∷ []
        one true e =
            let same : n ≡ a = omega (arith, h, le_from n a e) in
            first_test (Steps n) [] a true e ∙ ap (λ m. Steps m ∷ []) same
        one false e = first_test (Steps n) [] a false e
    cut_cut (Ticks m) less = one (nat_le n a) refl
      where
        one : (b : Bool) → nat_le n a ≡ b → first_of a (Ticks n ∷ []) ≡ Ticks a ∷ []
        one true e =
            let same : n ≡ a = omega (arith, h, le_from n a e) in
            first_test (Ticks n) [] a true e ∙ ap (λ m. Ticks m ∷ []) same
        one false e = first_test (Ticks n) [] a false e
    cut_cut (Byte b) less = refl

    whole : Others → (b : Bool) → nat_le c a ≡ b → first_of a (g ∷ first_of (n - c) gs) ≡ first_of a (g ∷ gs)
    whole others true e =
        first_test g (first_of (n - c) gs) a true e ∙ ap (λ l. g ∷ l) (others (omega (arith, h))) ∙ sym (first_test g gs a true e)
    whole others false e = first_test g (first_of (n - c) gs) a false e ∙ sym (first_test g gs a false e)

    go : Others → (b : Bool) → nat_le c n ≡ b → first_of a (first_of n (g ∷ gs)) ≡ first_of a (g ∷ gs)
    go others true e = ap (first_of a) (first_test g gs n true e) ∙ whole others (nat_le c a) refl
    go others false e =
        let less = lt_from c n e in
        ap (first_of a) (first_test g gs n false e) ∙ cut_cut g less ∙ sym (first_part a g gs (omega (arith, h, less)))

pub first_more : (a : ℕ) (gs more : List Given) (p : Position) → a ≤ count_of gs
    → position_of (first_of a (gs ++ more)) p ≡ position_of (first_of a gs) p
first_more a [] more p h =
    let none : a ≡ 0 = omega (arith, h) in
    ap (λ n. position_of (first_of n more) p) none ∙ none_position more p
first_more a (g ∷ gs) more p h =
    go (first_more (a - count_of_one g) gs more (position_after_one g p)) (nat_le (count_of_one g) a) refl
  where
    go : (a - count_of_one g ≤ count_of gs
        → position_of (first_of (a - count_of_one g) (gs ++ more)) (position_after_one g p)
        ≡ position_of (first_of (a - count_of_one g) gs) (position_after_one g p))
        → (b : Bool) → nat_le (count_of_one g) a ≡ b → position_of (first_of a (g ∷ (gs ++ more))) p ≡ position_of (first_of a (g ∷ gs)) p
    go others true e =
        ap (λ l. position_of l p) (first_test g (gs ++ more) a true e)
        ∙ others (omega (arith, h, le_from (count_of_one g) a e))
        ∙ ap (λ l. position_of l p) (sym (first_test g gs a true e))
    go others false e = ap (λ l. position_of l p) (first_test g (gs ++ more) a false e ∙ sym (first_test g gs a false e))
