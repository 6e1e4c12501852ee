-- How long names are.
use Rattle.std.proofs.Common.{◌≡◌, ℕ, zero, suc, ◌≤◌, Bool, true, false, ◌&&◌, List, [], ◌∷◌, Some, None, refl, arith}
use Rattle.std.specs.Prelude.{length, nat_le, slice_get}
use Rattle.std.proofs.lemmas.Bool.Decides.{nat_tests}
use Rattle.isa_rows.specs.declared.rows.Row.{Row}
use Rattle.isa_rows.specs.declared.rows.Row.TheVariants.{Lui}
use Rattle.isa_rows.specs.Line.{line_of}
use Rattle.asm_names.specs.Mnemonic.{mnemonic}
use Rattle.asm_names.specs.Registers.{register_name, integer_names, capability_names}
use Rattle.base.specs.Registers.{csrs, special_registers}
use Rattle.asm_names.specs.SpecialNames.{name_in, csr_name, scr_name}
use Rattle.asm_names.specs.NameLaws.{csr_named-csr_name, csr_named-below}
use Rattle.asm_names.specs.Slots.{slots_of}
use Rattle.disassembler.specs.Widths.{operands_width}

-- no name of a list is longer than so many bytes
abbrev are_within : ℕ → List (List ℕ) → Bool
are_within k [] = true
are_within k (name ∷ names) = nat_le (length name) k && are_within k names

within-at : (k n : ℕ) (names : List (List ℕ)) (text : List ℕ) → are_within k names ≡ true → slice_get names n ≡ Some text → length text ≤ k
within-at k n [] text h e = cc
within-at k zero (name ∷ names) text h e = grind (arith, nat_tests)
within-at k (suc n) (name ∷ names) text h e = within-at k n names text (grind (arith, nat_tests)) e

pub register_name_short : (capability : Bool) (n : ℕ) (text : List ℕ) → register_name capability n ≡ Some text → length text ≤ 5
register_name_short true n text e = within-at 5 n capability_names text refl e
register_name_short false n text e = within-at 5 n integer_names text refl e

abbrev are_names_within : ℕ → List (ℕ × List ℕ) → Bool
are_names_within k [] = true
are_names_within k (p ∷ ps) = nat_le (length p.1) k && are_names_within k ps

within-in : (k n : ℕ) (names : List (ℕ × List ℕ)) (text : List ℕ) → are_names_within k names ≡ true → name_in names n ≡ Some text
    → length text ≤ k
within-in k n [] text h e = cc
within-in k n (p ∷ ps) text h e =
    let here : length p.1 ≤ k = grind (arith, nat_tests) in
    let rest : are_names_within k ps ≡ true = grind (arith, nat_tests) in
    let later = within-in k n ps text rest in
    grind (arith, nat_tests, here, later)

pub csr_name_short : (n : ℕ) (text : List ℕ) → csr_name n ≡ Some text → length text ≤ 18
unfolding csr_name
csr_name_short n text e = within-in 18 n csrs text refl e

pub scr_name_short : (n : ℕ) (text : List ℕ) → scr_name n ≡ Some text → length text ≤ 20
unfolding scr_name
scr_name_short n text e = within-in 20 n special_registers text refl e

-- no control and status register's number is above 4095
pub csr_name_none : (n : ℕ) → 4096 ≤ n → csr_name n ≡ None
csr_name_none n above =
    elim (csr_name n) as (λ o. csr_name n ≡ o → o ≡ None) [
      | Some text ↦ λ e. let below = csr_named-below text n (csr_named-csr_name n text e) in absurd (omega arith)
      | None ↦ λ e. refl
    ] refl

mnemonic_within : (mode : Bool) (row : Row) → nat_le (length (mnemonic mode row)) 15 ≡ true
unfolding line_of
mnemonic_within true Lui = refl
mnemonic_within true _ = refl
mnemonic_within false Lui = refl
mnemonic_within false _ = refl

pub mnemonic_short : (mode : Bool) (row : Row) → length (mnemonic mode row) ≤ 15
mnemonic_short mode row = let h = mnemonic_within mode row in grind (arith, nat_tests)

operands_within : (row : Row) → nat_le (operands_width (slots_of row)) 49 ≡ true
unfolding line_of
operands_within Lui = refl
operands_within _ = refl

pub operands_short : (row : Row) → operands_width (slots_of row) ≤ 49
operands_short row = let h = operands_within row in grind (arith, nat_tests)
