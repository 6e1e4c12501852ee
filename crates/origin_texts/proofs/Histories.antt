-- The history of a session's past, one event after the other.
use Rattle.std.proofs.Common.{◌≡◌, ℕ, zero, suc, ◌+◌, ◌<◌, ◌≤◌, List, [], ◌∷◌}
use Rattle.std.proofs.Common.{◌++◌, length, take, drop, refl, sym, ap, subst, ◌∙◌, arith, append_assoc}
use Rattle.std.proofs.lemmas.List.{length-append}
use Rattle.std.specs.Prelude.{Option, Some, None, IfSome, IfNone, IsSome}
use Rattle.hart.specs.Opening.{opening}
use Rattle.steps.specs.Event.{after}
use Rattle.steps.specs.State.{State}
use Rattle.steps.specs.declared.event.Event.{Event}
use Rattle.steps.specs.declared.event.Event.TheVariants.{Step, Tick, Byte}
use Rattle.machine.specs.Run.{run_after}
use Rattle.schedules.proofs.Events.{run_after-append}
use Rattle.origins.proofs.Last.{last-found}
use Rattle.origins.specs.Kept.{AreThere}
use Rattle.origins.specs.Made.{made_at}
use Rattle.origins.specs.Search.{IsLast, done_at, last, last_after, newer}
use Rattle.origins.specs.declared.making.Making.{Making}
use Rattle.origins.specs.declared.place.Place.{Place}
use Rattle.origins.specs.declared.search.Found.{Found}
use Rattle.origins.specs.declared.search.Sought.{Sought}
use Rattle.origins.specs.declared.search.Sought.TheVariants.{Written}
use Rattle.past.proofs.InOrder.{length-events_of}
use Rattle.past.specs.Given.{PastState, count_of, past_events, state_at}
use Rattle.past.specs.Giving.{HasSameSize}
use Rattle.past.specs.Position.{beginning as beginning_of}
use Rattle.past.specs.Replay.{ReplayState}
use Rattle.origin_texts.specs.Chain.{chain, chain_by, no_links, whole_chain}
use Rattle.origin_texts.specs.Log.{IsHistory, IsLog}
use Rattle.origin_texts.specs.Origin.{history, last_among}
use Rattle.origin_texts.specs.declared.log.Link.{Link}
use Rattle.origin_texts.specs.Writes.{IsGrown}
use Rattle.origin_texts.proofs.Facts.{beginning, early, there}
use Rattle.origin_texts.proofs.Growing.{log_grown}

-- ---- the next of a list

pub first_next : (k : ℕ) (xs : List Event) (e : Event) (es : List Event) → drop k xs ≡ e ∷ es → take (suc k) xs ≡ take k xs ++ e ∷ []
first_next zero [] e es h = absurd (cc)
first_next zero (x ∷ xs) e es h =
    let same : x ≡ e = cc in
    ap (λ y. y ∷ []) same
first_next (suc k) [] e es h = absurd (cc)
first_next (suc k) (x ∷ xs) e es h = ap (λ l. x ∷ l) (first_next k xs e es h)

pub rest_next : (k : ℕ) (xs : List Event) (e : Event) (es : List Event) → drop k xs ≡ e ∷ es → drop (suc k) xs ≡ es
rest_next zero [] e es h = absurd (cc)
rest_next zero (x ∷ xs) e es h =
    let same : xs ≡ es = cc in
    same
rest_next (suc k) [] e es h = absurd (cc)
rest_next (suc k) (x ∷ xs) e es h = rest_next k xs e es h

first_count : (k : ℕ) (xs : List Event) (e : Event) (es : List Event) → drop k xs ≡ e ∷ es → length (take k xs) ≡ k
first_count zero xs e es h = refl
first_count (suc k) [] e es h = absurd (cc)
first_count (suc k) (x ∷ xs) e es h = ap suc (first_count k xs e es h)

pub some_left : (k : ℕ) (xs : List Event) → k < length xs → 0 < length (drop k xs)
some_left zero xs few = few
some_left (suc k) [] few = absurd (omega (arith, few))
some_left (suc k) (x ∷ xs) few = some_left k xs (omega (arith, few))

length_first : (n : ℕ) (xs : List Event) → length (take n xs) ≤ length xs
length_first zero xs = omega arith
length_first (suc n) [] = omega arith
length_first (suc n) (x ∷ xs) =
    let few = length_first n xs in
    omega (arith, few)

-- ---- the last writer after one event more

last_after-snoc : (sought : Sought) (place : Place) (b : ℕ) (f : Option Found) (es : List Event) (e : Event) (s : State)
    → last_after sought place b f (es ++ e ∷ []) s
    ≡ newer (b + length es) (done_at sought place e (run_after es s)) (last_after sought place b f es s)
last_after-snoc sought place b f [] e s =
    let same : b ≡ b + 0 = omega arith in
    ap (λ n. newer n (done_at sought place e s) f) same
last_after-snoc sought place b f (x ∷ xs) e s =
    let same : suc b + length xs ≡ b + suc (length xs) = omega arith in
    last_after-snoc sought place (suc b) (newer b (done_at sought place x s) f) xs e (after x s)
    ∙ ap (λ n. newer n (done_at sought place e (run_after xs (after x s)))
    (last_after sought place (suc b) (newer b (done_at sought place x s) f) xs (after x s))) same

is_step : (place : Place) (e : Event) (s : State) (making : Making) → made_at place e s ≡ Some making → e ≡ Step
is_step place Step s making made = refl
is_step place Tick s making made = absurd (cc)
is_step place (Byte b) s making made = absurd (cc)

module _ (past : PastState) (replay : Option ReplayState) where
  pub early_history : IsHistory (history past replay)
  early_history = record { early = λ n p f found. early Written p n past replay f found }

  pub none_first : (place : Place) → last_among past replay Written 0 place ≡ None
  unfolding last
  none_first place = refl

  module _ (k : ℕ) (e : Event) (es : List Event) (next : drop k (past_events past replay) ≡ e ∷ es) where
    pub state_next : state_at (suc k) past replay ≡ after e (state_at k past replay)
    state_next =
        ap (λ l. run_after l (opening past.image)) (first_next k (past_events past replay) e es next)
        ∙ run_after-append (take k (past_events past replay)) (e ∷ []) (opening past.image)

    pub last_next : (place : Place) → last_among past replay Written (suc k) place
        ≡ newer k (made_at place e (state_at k past replay)) (last_among past replay Written k place)
    unfolding last
    last_next place =
        ap (λ l. last_after Written place 0 None l (opening past.image)) (first_next k (past_events past replay) e es next)
        ∙ last_after-snoc Written place 0 None (take k (past_events past replay)) e (opening past.image)
        ∙ ap
        (λ n. newer n (made_at place e (state_at k past replay))
        (last_after Written place 0 None (take k (past_events past replay)) (opening past.image)))
        (let count = first_count k (past_events past replay) e es next in omega (arith, count))

    -- a log that grows by what this event wrote
    pub log_next : (from : ℕ) (s : State) (old new : List Link) → from ≤ k → s ≡ state_at k past replay → HasSameSize (opening past.image) s
        → IsLog (history past replay) from k old → IsGrown k e s old new → IsLog (history past replay) from (suc k) new
    log_next from s old new few stands size is_log grown =
        subst (IsLog (history past replay) from (suc k)) (sym grown.grown)
        (log_grown (history past replay) from k (λ p. made_at p e s) old grown.more few is_log (grown.logged (history past replay) size)
        (λ p there. last_next p ∙ ap (λ t. newer k (made_at p e t) (last_among past replay Written k p)) (sym stands)))

  -- ---- a link

  module _ (place : Place) (n : ℕ) (found : Found) (is_found : last_among past replay Written n place ≡ Some found) where
    is_last : IsLast Written place (take n (past_events past replay)) (opening past.image) found
    is_last = last-found Written place (take n (past_events past replay)) (opening past.image) found is_found

    of_step : is_last.event ≡ Step
    of_step = is_step place is_last.event (run_after is_last.earlier (opening past.image)) found.making is_last.does

    with_it : take (suc found.before) (past_events past replay) ≡ is_last.earlier ++ is_last.event ∷ []
    with_it =
        let count : length (is_last.earlier ++ is_last.event ∷ []) ≡ suc found.before =
        omega (arith, length-append is_last.earlier (is_last.event ∷ []), is_last.count) in
        subst (λ k. take k (past_events past replay) ≡ is_last.earlier ++ is_last.event ∷ []) count
        (beginning (is_last.earlier ++ is_last.event ∷ []) is_last.later n (past_events past replay)
        (is_last.events_are ∙ sym (append_assoc is_last.earlier (is_last.event ∷ []) is_last.later)))

    before_it : take found.before (past_events past replay) ≡ is_last.earlier
    before_it =
        subst (λ k. take k (past_events past replay) ≡ is_last.earlier) is_last.count
        (beginning is_last.earlier (is_last.event ∷ is_last.later) n (past_events past replay) is_last.events_are)

    pub stepped : state_at (suc found.before) past replay ≡ after Step (state_at found.before past replay)
    stepped =
        ap (λ l. run_after l (opening past.image)) with_it
        ∙ run_after-append is_last.earlier (is_last.event ∷ []) (opening past.image)
        ∙ ap (λ e. after e (run_after is_last.earlier (opening past.image))) of_step
        ∙ ap (λ l. after Step (run_after l (opening past.image))) (sym before_it)

    pub among_all : found.before < length (past_events past replay)
    among_all =
        let parts = ap length is_last.events_are ∙ length-append is_last.earlier (is_last.event ∷ is_last.later) in
        omega (arith, length_first n (past_events past replay), parts, is_last.count)

    pub among_past : found.before < count_of past.given
    among_past = let all = length-events_of past.given (beginning_of replay) in omega (arith, among_all, all)

    pub sources_there : AreThere found.making (state_at found.before past replay)
    sources_there = there Written place n past replay found is_found

-- the next event is taken
pub next_dropped : (o : Option Event) (k : ℕ) (all old new : List Event) → old ≡ drop k all → IfSome o (λ e. old ≡ e ∷ new)
    → IfNone o (old ≡ []) → k < length all → new ≡ drop (k + 1) all
next_dropped (Some e) k all old new at some none few =
    let one : suc k ≡ k + 1 = omega arith in
    sym (rest_next k all e new (sym at ∙ some)) ∙ ap (λ j. drop j all) one
next_dropped None k all old new at some none few =
    let left : length (drop k all) ≡ 0 = ap length (sym at ∙ none) in
    absurd (omega (arith, some_left k all few, left))

pub some_next : (o : Option Event) (k : ℕ) (all old : List Event) → old ≡ drop k all → IfNone o (old ≡ []) → k < length all → IsSome o
some_next (Some e) k all old at none few = refl
some_next None k all old at none few =
    let left : length (drop k all) ≡ 0 = ap length (sym at ∙ none) in
    absurd (omega (arith, some_left k all few, left))

-- before the first event
pub at_first : (past : PastState) (replay : Option ReplayState) (place : Place) (n : ℕ) → n ≡ 0
    → whole_chain (history past replay).last_writer place n ≡ no_links (Some place)
at_first past replay place n none =
    ap (whole_chain (history past replay).last_writer place) none
    ∙ ap (chain_by (chain (history past replay).last_writer 0) place) (none_first past replay place)
