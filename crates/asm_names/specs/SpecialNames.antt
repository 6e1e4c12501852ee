-- The numbers and names of the special registers, one read from the other.
use Rattle.base.specs.Registers.{csrs, special_registers}
use Rattle.std.specs.Cmp.Lexicographic.{pointwise}
use Rattle.std.specs.Prelude.{ℕ, List, Option, option_map, find, nat_eq, ◌==◌}

-- the number that a list gives a name, and the name that it gives a number
abbrev pub number_in : List (ℕ × List ℕ) → List ℕ → Option ℕ
number_in names text = option_map (λ p. p.0) (find (λ p. pointwise nat_eq p.1 text) names)

abbrev pub name_in : List (ℕ × List ℕ) → ℕ → Option (List ℕ)
name_in names number = option_map (λ p. p.1) (find (λ p. p.0 == number) names)

unfoldable pub csr_named : List ℕ → Option ℕ
csr_named text = number_in csrs text

unfoldable pub csr_name : ℕ → Option (List ℕ)
csr_name number = name_in csrs number

unfoldable pub scr_named : List ℕ → Option ℕ
scr_named text = number_in special_registers text

unfoldable pub scr_name : ℕ → Option (List ℕ)
scr_name number = name_in special_registers number
