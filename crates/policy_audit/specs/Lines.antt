-- The lines of a policy's text that say its rules.
use Rattle.std.specs.Prelude.{◌≡◌, ℕ, List, [], ◌∷◌, IsUtf8, ⊤}
use Rattle.breach_texts.specs.declared.breach.RuleLine.{RuleLine}
use Rattle.policy_text.specs.Policy.{line_text}

-- a line of a text by its number, as far as it is UTF-8
abbrev pub IsLineOf : List ℕ → ℕ → RuleLine → Type 0
IsLineOf text number line = (line.number ≡ number) × (IsUtf8 (line_text text number) → line.text.now ≡ line_text text number)

-- one for each number
abbrev pub AreLinesOf : List ℕ → List ℕ → List RuleLine → Type 0
AreLinesOf text [] [] = ⊤
AreLinesOf text [] (line ∷ lines) = ⊥
AreLinesOf text (number ∷ numbers) [] = ⊥
AreLinesOf text (number ∷ numbers) (line ∷ lines) = IsLineOf text number line × AreLinesOf text numbers lines
