-- How long names are.
use Rattle.std.proofs.Common.{◌≡◌, ℕ, ◌-◌, ◌≤◌, Bool, true, false, List, [], ◌∷◌, Some, refl, ◌∙◌, arith}
use Rattle.std.specs.Prelude.{length, nat_le, nat_lt, ◌&&◌, if◌then◌else◌, Option, None}
use Rattle.std.proofs.lemmas.Bool.Decides.{nat_tests}
use Rattle.asm_names.specs.SpecialNames.{name_in, scr_name}
use Rattle.asm_names.specs.Registers.{register_name, or_else}
use Rattle.disassembler.specs.LengthLaws.{register_name_short, scr_name_short}
use Rattle.asm_names.specs.TrapNames.{exceptions, interrupts, cheri_causes, cause_name, cheri_cause_name, register_at_fault}

-- no name of a list is longer than so many bytes
abbrev are_within : ℕ → List (ℕ × List ℕ) → Bool
are_within k [] = true
are_within k (p ∷ ps) = nat_le (length p.1) k && are_within k ps

within : (k n : ℕ) (names : List (ℕ × List ℕ)) (text : List ℕ) → are_within k names ≡ true → name_in names n ≡ Some text
    → length text ≤ k
within k n [] text h e = cc
within k n (p ∷ ps) text h e =
    let here : length p.1 ≤ k = grind (arith, nat_tests) in
    let rest : are_within k ps ≡ true = grind (arith, nat_tests) in
    let later = within k n ps text rest in
    grind (arith, nat_tests, here, later)

pub cause_name_short : (n : ℕ) (text : List ℕ) → cause_name n ≡ Some text → length text ≤ 30
unfolding cause_name
cause_name_short n text e = go (name_in exceptions n) refl e
  where
    go : (o : Option (List ℕ)) → name_in exceptions n ≡ o → or_else o (name_in interrupts n) ≡ Some text → length text ≤ 30
    go (Some name) at e = within 30 n exceptions text refl (at ∙ e)
    go None at e = within 30 n interrupts text refl e

pub cheri_cause_name_short : (n : ℕ) (text : List ℕ) → cheri_cause_name n ≡ Some text → length text ≤ 40
unfolding cheri_cause_name
cheri_cause_name_short n text e = within 40 n cheri_causes text refl e

pub register_at_fault_short : (n : ℕ) (text : List ℕ) → register_at_fault n ≡ Some text → length text ≤ 20
unfolding register_at_fault
register_at_fault_short n text e = go (nat_lt n 32) (nat_lt n 64) e
  where
    go : (low high : Bool) → (if low then register_name true n else (if high then scr_name (n - 32) else None)) ≡ Some text
        → length text ≤ 20
    go true high e = let short = register_name_short true n text e in omega (arith, short)
    go false true e = scr_name_short (n - 32) text e
    go false false e = cc
