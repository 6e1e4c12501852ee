-- What is written where a range of code may be entered.
use Rattle.std.proofs.Common.{◌≡◌, ℕ, Bool, true, false, List, [], ◌∷◌, map, refl, sym, ap, ◌∙◌}
use Rattle.std.specs.List.{list_any}
use Rattle.std.specs.Prelude.{bytes_eq, ◌||◌}
use Rattle.steps.specs.State.{State}
use Rattle.policy.specs.Watch.{values_in}
use Rattle.reach.specs.declared.range.Range.{Range}
use Rattle.reach.specs.Ranges.{bounds_of}
use Rattle.policy_audit.specs.Entries.{Entered, entry_rule, entry_rules, is_entered}

-- a test of each element's image
any_of_map : {X : Type 0} (test : List ℕ → Bool) (f : X → List ℕ) (xs : List X) → list_any test (map f xs) ≡ list_any (λ x. test (f x)) xs
any_of_map test f [] = refl
any_of_map test f (x ∷ xs) = ap (λ b. test (f x) || b) (any_of_map test f xs)

pub among_rules : {X : Type 0} (f : X → List ℕ) (lines read : List X) (new line : List ℕ) (b : Bool) → read ≡ lines → new ≡ line
    → b ≡ list_any (λ l. bytes_eq (f l) new) read → b ≡ list_any (λ l. bytes_eq l line) (map f lines)
among_rules f lines read new line b same is answer =
    answer ∙ ap (λ ls. list_any (λ l. bytes_eq (f l) new) ls) same ∙ ap (λ n. list_any (λ l. bytes_eq (f l) n) lines) is
    ∙ sym (any_of_map (λ l. bytes_eq l line) f lines)

module _ (e : Entered) (s : State) (code : Range) (here : code ≡ bounds_of s.scrs.pcc)
    (answer : Bool) (answer_is : answer ≡ is_entered e.code code) (holds : answer ≡ true)
    (line : List ℕ) (rule_is : line ≡ entry_rule code (values_in s)) where
  is_rule : entry_rule (bounds_of s.scrs.pcc) (values_in s) ≡ line
  is_rule = ap (λ c. entry_rule c (values_in s)) (sym here) ∙ sym rule_is

  is_here : is_entered e.code (bounds_of s.scrs.pcc) ≡ true
  is_here = ap (is_entered e.code) (sym here) ∙ sym answer_is ∙ holds

  pub old_rule : list_any (λ l. bytes_eq l line) e.rules ≡ true → [] ≡ entry_rules e s
  unfolding entry_rules
  old_rule among = rw (is_here, is_rule, among) refl

  pub other_rule : list_any (λ l. bytes_eq l line) e.rules ≡ false → line ∷ [] ≡ entry_rules e s
  unfolding entry_rules
  other_rule among = rw (is_here, is_rule, among) refl
