-- Symbols one by one.
use Rattle.std.proofs.Common.{◌≡◌, ℕ, zero, suc, ◌+◌, List, [], ◌∷◌, ◌++◌, Some, None, refl, drop, arith}
use Rattle.std.specs.Prelude.{slice_get}
use Rattle.std.specs.declared.vec.Vec.{Vec}
use Rattle.symbols.specs.Reads.{seen_entry, seen_entries}
use Rattle.symbols.specs.Symbols.{symbol_line, table_text}

-- the line of an entry before those of the later ones
pub next_entry : {A : Type 0} (entries : List (Vec ℕ A × ℕ)) (i : ℕ) (e : Vec ℕ A × ℕ) → slice_get entries i ≡ Some e
    → table_text (seen_entries (drop i entries)) ≡ symbol_line (seen_entry e) ++ table_text (seen_entries (drop (i + 1) entries))
next_entry [] i e h = cc
next_entry (x ∷ xs) zero e h = let k : x ≡ e = cc in rw k refl
next_entry (x ∷ xs) (suc i) e h = let n : suc i + 1 ≡ suc (i + 1) = omega arith in rw n (next_entry xs i e h)

-- after the last entry nothing is left
pub last_entry : {A : Type 0} (entries : List (Vec ℕ A × ℕ)) (i : ℕ) → slice_get entries i ≡ None → drop i entries ≡ []
last_entry [] zero h = refl
last_entry [] (suc i) h = refl
last_entry (x ∷ xs) zero h = cc
last_entry (x ∷ xs) (suc i) h = last_entry xs i h
