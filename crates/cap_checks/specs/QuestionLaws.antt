-- Of two lists of conditions the first fault is that of the first list, or else that of the second; and what holds of a list that begins
-- with a condition that is asked for in some cases alone.
use Rattle.std.proofs.Common.{◌≡◌, Bool, true, false, List, [], ◌∷◌, ◌++◌, refl, ap, ◌∙◌}
use Rattle.std.specs.Option.{option_or}
use Rattle.base.specs.declared.fault.Fault.{Fault}
use Rattle.base.specs.FirstFault.{first_fault}
use Rattle.base.specs.FirstFaultLaws.{EachHolds, OfEach, first_fault-append}
use Rattle.cap_checks.specs.declared.question.Condition.{Condition}
use Rattle.cap_checks.specs.FirstFault.{asked_if}
use Rattle.cap_checks.specs.Question.{fault_of, judged, first_false}

judged-append : (first last : List Condition) → judged (first ++ last) ≡ judged first ++ judged last
judged-append [] last = refl
judged-append (c ∷ first) last = ap (λ others. (c.holds, fault_of c.question) ∷ others) (judged-append first last)

pub first_false-append : (first last : List Condition) → first_false (first ++ last) ≡ option_or (first_false first) (first_false last)
first_false-append first last = ap first_fault (judged-append first last) ∙ first_fault-append (judged first) (judged last)

module _ (is_asked : Bool) (c : Condition) (others : List Condition) where
  pub others-hold : EachHolds (judged (asked_if is_asked c ++ others)) → EachHolds (judged others)
  others-hold all = elim is_asked as (λ b. EachHolds (judged (asked_if b c ++ others)) → EachHolds (judged others)) [
    | true ↦ λ all. all.1
    | false ↦ λ all. all
  ] all

  pub each-asked : (P : Fault → Type 0) → P (fault_of c.question) → OfEach P (judged others)
      → OfEach P (judged (asked_if is_asked c ++ others))
  each-asked P first rest = elim is_asked as (λ b. OfEach P (judged (asked_if b c ++ others))) [
    | true ↦ (first, rest)
    | false ↦ rest
  ]
