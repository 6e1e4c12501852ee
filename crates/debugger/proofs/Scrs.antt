-- The numbers of special capability registers have eight bits.
use Rattle.std.proofs.Common.{◌≡◌, ℕ, ◌≤◌, ◌<◌, true, List, length, get_or, arith}
use Rattle.std.proofs.lemmas.Bool.Decides.{nat_tests}
use Rattle.std.specs.List.{list_all}
use Rattle.base.specs.Registers.{is_scr}
use Rattle.debugger.proofs.AllListed.{all-first}

pub scr-below : (n : ℕ) → is_scr n ≡ true → n < 256
scr-below n listed = grind (arith, nat_tests, listed)

pub first-below : {A B : Type 0} (d : ℕ × A × B) (xs : List (ℕ × A × B)) → 1 ≤ length xs → list_all (λ r. is_scr r.0) xs ≡ true
    → (get_or xs 0 d).0 < 256
first-below d xs some all = scr-below (get_or xs 0 d).0 (all-first (λ r. is_scr r.0) d xs some all)
