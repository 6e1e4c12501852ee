-- One line more.
use Rattle.std.proofs.Common.{ℕ, List, [], ◌∷◌, ◌++◌}
use Rattle.breach_texts.specs.declared.breach.RuleLine.{RuleLine}
use Rattle.policy_audit.specs.Lines.{AreLinesOf, IsLineOf}

pub one-more : (text numbers : List ℕ) (lines : List RuleLine) (number : ℕ) (line : RuleLine) → AreLinesOf text numbers lines
    → IsLineOf text number line → AreLinesOf text (numbers ++ number ∷ []) (lines ++ line ∷ [])
one-more text [] [] number line are is = (is, tt)
one-more text [] (l ∷ ls) number line are is = absurd are
one-more text (n ∷ ns) [] number line are is = absurd are
one-more text (n ∷ ns) (l ∷ ls) number line are is = (are.0, one-more text ns ls number line are.1 is)
