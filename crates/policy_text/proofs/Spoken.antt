-- Lines with a word before their comment.
use Rattle.std.proofs.Common.{◌≡◌, ℕ, Bool, true, false, List, ◌∷◌, refl}
use Rattle.policy_text.specs.declared.fault.Fault.{Fault}
use Rattle.policy_text.specs.declared.fault.Fault.TheVariants.{Code, Memory}
use Rattle.policy_text.specs.Policy.{has_word, uncommented}
use Rattle.policy_text.specs.FaultAt.{fault_at}
use Rattle.policy_text.specs.Seen.{ComesOf, has_words}

not-false : (a : Bool) → (a ≡ false → ⊥) → a ≡ true
not-false true never = refl
not-false false never = absurd (never refl)

pub here : (line : List ℕ) (lines : List (List ℕ)) → (has_word (uncommented line) ≡ false → ⊥) → has_words (line ∷ lines) ≡ true
here line lines never = rw (not-false (has_word (uncommented line)) never) refl

pub comes : (fault : Fault) (number : ℕ) (lines : List (List ℕ)) → has_words lines ≡ true → ComesOf lines (fault_at fault number)
comes (Code code) number lines has = tt
comes Memory number lines has = has
