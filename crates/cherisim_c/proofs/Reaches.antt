-- Members as C gets them, and what the answer *no* says.
use Rattle.std.proofs.Common.{◌≡◌, ℕ, List, [], ◌∷◌, map, refl, sym, ap, ◌∙◌, subst}
use Rattle.std.proofs.lemmas.Bool.{false≢true}
use Rattle.std.specs.Prelude.{Bool, Option, None, Some, Result, Ok, Err, IfOk, IfSome, false, true}
use Rattle.cap_bounds.specs.CapValue.{CapValue}
use Rattle.doors.specs.Through.{AreReachableThroughDoors}
use Rattle.doors.specs.ThroughOrder.{members_through}
use Rattle.doors.specs.Turn.{IsTurn}
use Rattle.machine.specs.Stretch.{IsPlainRun}
use Rattle.reach.specs.declared.may.May.{May}
use Rattle.steps.specs.declared.event.Event.{Event}
use Rattle.steps.specs.State.{State}
use Rattle.reach.specs.Reach.{AreReachable, members_in}
use Rattle.reach_texts.specs.Asked.{first_that, values_of}
use Rattle.reached.specs.declared.member.Member.{Member}
use Rattle.reached.specs.Links.{values}
use Rattle.reached.specs.Order.{Found, seen_members}
use Rattle.cherisim_c.specs.declared.types.Answer.{Answer}
use Rattle.cherisim_c.specs.declared.types.Member.{Member as MemberForC}
use Rattle.cherisim_c.specs.declared.types.Question.{Question}
use Rattle.cherisim_c.specs.Questions.{AreReachableUpTo, IsNeverDone, IsNotDone, may_of, members_up_to}
use Rattle.cherisim_c.specs.Reaching.{shown_member, c_member, answer_of}

module _ {X : Type 0} (value : X → CapValue) where
  values_seen : (ms : List (Member X)) → values_of (seen_members value ms) ≡ values value ms
  values_seen [] = refl
  values_seen (m ∷ ms) = ap (λ vs. value m.cap ∷ vs) (values_seen ms)

  -- the members of a state's reach have the values that are reachable in it
  pub reachable : (s : State) (ms : List (Member X)) → AreReachable s (values value ms) → seen_members value ms ≡ members_in s
      → AreReachable s (values_of (members_in s))
  reachable s ms are is = subst (AreReachable s) (sym (values_seen ms) ∙ ap values_of is) are

-- the values of members that C gets are the members' values
values_shown : (ms : List MemberForC) → map (λ m. (shown_member m).value) ms ≡ map (λ x. x.value) (map shown_member ms)
values_shown [] = refl
values_shown (m ∷ ms) = ap (λ vs. (shown_member m).value ∷ vs) (values_shown ms)

values_for_c : (xs : List Found) → map (λ x. x.value) (map c_member xs) ≡ values_of xs
values_for_c [] = refl
values_for_c (x ∷ xs) = ap (λ vs. x.value ∷ vs) (values_for_c xs)

-- what C gets of some members has their values: so what is said of these values holds of it
pub values_are : (xs : List Found) (ms : List MemberForC) → map shown_member ms ≡ map c_member xs
    → values_of xs ≡ map (λ m. (shown_member m).value) ms
values_are xs ms is = sym (values_for_c xs) ∙ sym (ap (map (λ x. x.value)) is) ∙ sym (values_shown ms)

pub reachable_for_c : (s t : State) (ms : List MemberForC) → t ≡ s → AreReachable t (values_of (members_in t))
    → map shown_member ms ≡ map c_member (members_in t) → AreReachable s (map (λ m. (shown_member m).value) ms)
reachable_for_c s t ms same are is =
    subst (λ u. AreReachable u (map (λ m. (shown_member m).value) ms)) same
    (subst (AreReachable t) (values_are (members_in t) ms is) are)

pub through_for_c : (s t : State) (ms : List MemberForC) → t ≡ s → AreReachableThroughDoors t (values_of (members_through t))
    → map shown_member ms ≡ map c_member (members_through t) → AreReachableThroughDoors s (map (λ m. (shown_member m).value) ms)
through_for_c s t ms same are is =
    subst (λ u. AreReachableThroughDoors u (map (λ m. (shown_member m).value) ms)) same
    (subst (AreReachableThroughDoors t) (values_are (members_through t) ms is) are)

-- where no member does, none is the first that does
none_first : (first : Option ℕ) → (answer_of first).may ≡ false → first ≡ None
none_first None h = refl
none_first (Some k) h = absurd (false≢true (sym h))

-- what *no* says of an answer for C: what no member lets code do is never done
module _ (may : May) (s : State)
    (stretch : (may : May) (events : List Event) (s : State) (xs : List Found) → AreReachable s (values_of xs) → IsPlainRun events s
    → first_that may xs ≡ None → IsNotDone false may events s)
    (turn : (may : May) (events : List Event) (s : State) (xs : List Found) → AreReachableThroughDoors s (values_of xs) → IsTurn events s
    → first_that may xs ≡ None → IsNotDone true may events s) where
  never : (doors : Bool) → AreReachableUpTo doors s (values_of (members_up_to doors s)) → first_that may (members_up_to doors s) ≡ None
      → IsNeverDone doors may s
  never false are none = λ events run. stretch may events s (members_in s) are run none
  never true are none = λ events run. turn may events s (members_through s) are run none

  pub refused : {F : Type 0} (doors : Bool) (result : Result Answer F)
      → IfOk result (λ answer. AreReachableUpTo doors s (values_of (members_up_to doors s)))
      → IfOk result (λ answer. answer ≡ answer_of (first_that may (members_up_to doors s)))
      → IfOk result (λ answer. answer.may ≡ false → IsNeverDone doors may s)
  refused doors (Err fault) are is = tt
  refused doors (Ok answer) are is = λ no_member.
      never doors are (none_first (first_that may (members_up_to doors s)) (sym (ap (λ a. a.may) is) ∙ no_member))

-- what holds of what is asked holds of the question
pub of_asked : (machine : Option State) (status : ℕ) (answer : Answer) (may : May) (question : Question) (found : Option May)
    → found ≡ may_of question → found ≡ Some may
    → IfSome machine (λ s. status ≡ 0 → answer.may ≡ false → IsNeverDone question.doors may s)
    → IfSome machine (λ s. IfSome (may_of question) (λ m. status ≡ 0 → answer.may ≡ false → IsNeverDone question.doors m s))
of_asked machine status answer may question found is some law =
    subst (λ o. IfSome machine (λ s. IfSome o (λ m. status ≡ 0 → answer.may ≡ false → IsNeverDone question.doors m s))) (sym some ∙ is) law
