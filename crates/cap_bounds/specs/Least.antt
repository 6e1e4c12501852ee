-- The least number with a property, found by looking at 0, 1, 2, .. in turn.
use Rattle.std.specs.Prelude.{ℕ, zero, suc, Bool, if◌then◌else◌}

-- the least number from k on, at most n above it, that passes; k + n where none before it does
abbrev pub least_from : ℕ → ℕ → (ℕ → Bool) → ℕ
least_from k zero p = k
least_from k (suc n) p = if p k then k else least_from (suc k) n p

-- the least number that passes, or the bound where none below it does
unfoldable pub least_up_to : ℕ → (ℕ → Bool) → ℕ
least_up_to bound p = least_from 0 bound p
