-- What is found among the first events of a past: it is one of them, and there are the places that it is about.
use Rattle.std.proofs.Common.{◌≡◌, ℕ, zero, suc, ◌<◌, ◌≤◌, List, [], ◌∷◌, ◌++◌, length, take, refl, sym, ap, subst, ◌∙◌, arith}
use Rattle.std.specs.Prelude.{Bool, true, false, Option, None, Some, IfSome, if◌then◌else◌}
use Rattle.std.proofs.lemmas.List.{length-append}
use Rattle.origins.specs.declared.place.Place.{Place}
use Rattle.hart.specs.Opening.{opening}
use Rattle.steps.specs.State.{State}
use Rattle.steps.specs.declared.event.Event.{Event}
use Rattle.steps.specs.declared.event.Event.TheVariants.{Step, Tick, Byte}
use Rattle.machine.specs.Run.{run_after}
use Rattle.origins.proofs.Last.{last-found}
use Rattle.origins.proofs.There.{step-there}
use Rattle.origins.specs.Kept.{AreThere}
use Rattle.origins.specs.Made.{made_at}
use Rattle.origins.specs.Search.{IsLast, done_at, loses, lost_at}
use Rattle.origins.specs.declared.making.Making.{Making}
use Rattle.origins.specs.declared.search.Found.{Found}
use Rattle.origins.specs.declared.search.Sought.{Sought}
use Rattle.origins.specs.declared.search.Sought.TheVariants.{Written, Lost}
use Rattle.past.specs.Given.{PastState, past_events, state_at}
use Rattle.past.specs.Replay.{ReplayState}
use Rattle.origin_texts.specs.Origin.{last_among}

-- ---- lists

pub length_take : (n : ℕ) (xs : List Event) → length (take n xs) ≤ n
length_take zero xs = omega arith
length_take (suc n) [] = omega arith
length_take (suc n) (x ∷ xs) =
    let few = length_take n xs in
    omega (arith, few)

-- the first of a list that begins with them
pub beginning : (xs ys : List Event) (n : ℕ) (all : List Event) → take n all ≡ xs ++ ys → take (length xs) all ≡ xs
beginning [] ys n all e = refl
beginning (x ∷ xs) ys zero all e = cc
beginning (x ∷ xs) ys (suc n) [] e = cc
beginning (x ∷ xs) ys (suc n) (a ∷ all) e =
    let heads : a ≡ x = cc in
    let tails : take n all ≡ xs ++ ys = cc in
    rw heads (ap (λ l. x ∷ l) (beginning xs ys n all tails))

-- ---- what was found

written-there : (place : Place) (event : Event) (s : State) (making : Making) → made_at place event s ≡ Some making
    → AreThere making s
written-there place Step s making made = subst (λ o. IfSome o (λ m. AreThere m s)) made (step-there s place)
written-there place Tick s making made = absurd (cc)
written-there place (Byte b) s making made = absurd (cc)

kept : (b : Bool) (made making : Making) → (if b then Some made else None) ≡ Some making → made ≡ making
kept true made making e = cc
kept false made making e = absurd (cc)

lost-there : (place : Place) (event : Event) (s : State) (making : Making) (made : Option Making)
    → made_at place event s ≡ made → lost_at place made event s ≡ Some making → AreThere making s
lost-there place event s making (Some m) e lost =
    subst (λ x. AreThere x s) (kept (loses place m event s) m making lost) (written-there place event s m e)
lost-there place event s making None e lost = absurd (cc)

done-there : (sought : Sought) (place : Place) (event : Event) (s : State) (making : Making)
    → done_at sought place event s ≡ Some making → AreThere making s
done-there Written place event s making done = written-there place event s making done
done-there Lost place event s making done = lost-there place event s making (made_at place event s) refl done

module _ (sought : Sought) (place : Place) (n : ℕ) (past : PastState) (replay : Option ReplayState) (found : Found)
    (is_found : last_among past replay sought n place ≡ Some found) where
  is_last : IsLast sought place (take n (past_events past replay)) (opening past.image) found
  is_last = last-found sought place (take n (past_events past replay)) (opening past.image) found is_found

  pub early : found.before < n
  early =
      let few = length_take n (past_events past replay) in
      let parts = ap length is_last.events_are ∙ length-append is_last.earlier (is_last.event ∷ is_last.later) in
      omega (arith, few, parts, is_last.count)

  before : take found.before (past_events past replay) ≡ is_last.earlier
  before =
      subst (λ k. take k (past_events past replay) ≡ is_last.earlier) is_last.count
      (beginning is_last.earlier (is_last.event ∷ is_last.later) n (past_events past replay) is_last.events_are)

  same : state_at found.before past replay ≡ run_after is_last.earlier (opening past.image)
  same = ap (λ es. run_after es (opening past.image)) before

  pub there : AreThere found.making (state_at found.before past replay)
  there =
      done-there sought place is_last.event (state_at found.before past replay) found.making
      (subst (λ s. done_at sought place is_last.event s ≡ Some found.making) (sym same) is_last.does)

  -- on a machine that stands there, whose RAM is as large as in the opening state
  module _ (machine : State) (stands : machine ≡ state_at found.before past replay) where
    pub there_now : AreThere found.making machine
    there_now = subst (λ s. AreThere found.making s) (sym stands) there

pub early_if : (sought : Sought) (place : Place) (n : ℕ) (past : PastState) (replay : Option ReplayState) (o : Option Found)
    → o ≡ last_among past replay sought n place → IfSome o (λ f. f.before < n)
early_if sought place n past replay (Some f) e = early sought place n past replay f (sym e)
early_if sought place n past replay None e = tt
