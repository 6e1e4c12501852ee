-- Readers and writers whose own calls may fail, and how often those failed.
use Rattle.std.specs.Prelude.{◌≡◌, ℕ, ◌+◌, ◌<◌, ◌≤◌, List, length, take, MatchResult, IfOk, Option, Result}
use Rattle.std.specs.Io.KnownBytes.{Appends}

-- The count of failures rises by one at an Err, and at nothing else.
abbrev pub Counts : {T E : Type 0} → ℕ → ℕ → Result T E → Type 0
Counts old new r = MatchResult r (λ _. new ≡ old) (λ _. new ≡ old + 1)

-- An Ok of a piece that is not empty has taken one byte of it at least.
abbrev pub TakesSome : {E : Type 0} → Result ℕ E → List ℕ → Type 0
TakesSome r piece = IfOk r (λ n. 0 < length piece → 0 < n)

-- Known bytes grow by a beginning of these.
abbrev pub AppendsBeginning : Option (List ℕ) → Option (List ℕ) → List ℕ → Type 0
AppendsBeginning old new bytes = (n : ℕ) × (n ≤ length bytes) × Appends old new (take n bytes)
