-- Laws of names: what is shown is read back, and the numbers that names have.
use Rattle.std.proofs.Common.{◌≡◌, ℕ, zero, suc, ◌+◌, ◌<◌, Bool, true, false, ◌==◌, ◌&&◌, List, [], ◌∷◌, Option, Some, None, refl, ap, ◌∙◌}
use Rattle.std.proofs.Common.{arith}
use Rattle.std.specs.Cmp.Lexicographic.{pointwise}
use Rattle.std.specs.Prelude.{length, nat_eq, nat_lt, slice_get}
use Rattle.std.proofs.lemmas.Bool.Decides.{nat_tests}
use Rattle.std.proofs.lemmas.List.Quantifiers.{position-Some}
use Rattle.isa_rows.specs.declared.rows.Row.{Row}
use Rattle.isa_rows.specs.declared.rows.Row.TheVariants.{Lui}
use Rattle.isa_rows.specs.Line.{line_of}
use Rattle.asm_names.specs.Mnemonic.{mnemonic, row_named}
use Rattle.asm_names.specs.Registers.{register_named, register_name, integer_names, capability_names, integer_numbers, capability_numbers}
use Rattle.asm_names.specs.Registers.{or_else, place_of, frame_pointer}
use Rattle.base.specs.Registers.{csrs, special_registers}
use Rattle.asm_names.specs.SpecialNames.{number_in, name_in, csr_named, csr_name, scr_named, scr_name}

-- a row by its name in either mode
pub row_named-mnemonic : (mode : Bool) (row : Row) → row_named (mnemonic mode row) ≡ Some row
unfolding line_of
row_named-mnemonic true Lui = refl
row_named-mnemonic true _ = refl
row_named-mnemonic false Lui = refl
row_named-mnemonic false _ = refl

-- a number was read, and it is this
abbrev is_number : ℕ → Option ℕ → Bool
is_number n (Some m) = m == n
is_number n None = false

is_number-Some : (n : ℕ) (r : Option ℕ) → is_number n r ≡ true → r ≡ Some n
is_number-Some n (Some m) h = grind (arith, nat_tests)
is_number-Some n None h = cc

-- each name of a list is read as its place from k on
abbrev are_read_from : ℕ → List (List ℕ) → Bool
are_read_from k [] = true
are_read_from k (name ∷ names) = is_number k (register_named name) && are_read_from (k + 1) names

read-at : (names : List (List ℕ)) (k n : ℕ) (text : List ℕ) → are_read_from k names ≡ true → slice_get names n ≡ Some text
    → register_named text ≡ Some (k + n)
read-at [] k n text h e = cc
read-at (name ∷ names) k zero text h e =
    let here : is_number k (register_named name) ≡ true = grind (arith, nat_tests) in
    let r = is_number-Some k (register_named name) here in
    grind (arith, r)
read-at (name ∷ names) k (suc n) text h e =
    let rest : are_read_from (k + 1) names ≡ true = grind (arith, nat_tests) in
    let r = read-at names (k + 1) n text rest e in
    grind (arith, r)

integer_names_read : are_read_from 0 integer_names ≡ true
unfolding register_named
integer_names_read = refl

capability_names_read : are_read_from 0 capability_names ≡ true
unfolding register_named
capability_names_read = refl

-- a register by the name that it is shown by
pub register_named-register_name : (capability : Bool) (n : ℕ) (text : List ℕ) → register_name capability n ≡ Some text
    → register_named text ≡ Some n
register_named-register_name true n text e = read-at capability_names 0 n text capability_names_read e ∙ ap Some (omega arith)
register_named-register_name false n text e = read-at integer_names 0 n text integer_names_read e ∙ ap Some (omega arith)

-- each name of a list is read as its number in another
abbrev are_read_in : List (ℕ × List ℕ) → List (ℕ × List ℕ) → Bool
are_read_in names [] = true
are_read_in names (p ∷ ps) = is_number p.0 (number_in names p.1) && are_read_in names ps

read-in : (names ps : List (ℕ × List ℕ)) (n : ℕ) (text : List ℕ) → are_read_in names ps ≡ true → name_in ps n ≡ Some text
    → number_in names text ≡ Some n
read-in names [] n text h e = cc
read-in names (p ∷ ps) n text h e =
    let here : is_number p.0 (number_in names p.1) ≡ true = grind (arith, nat_tests) in
    let rest : are_read_in names ps ≡ true = grind (arith, nat_tests) in
    let r = is_number-Some p.0 (number_in names p.1) here in
    let s = read-in names ps n text rest in
    grind (arith, nat_tests, r, s)

csr_names_read : are_read_in csrs csrs ≡ true
csr_names_read = refl

scr_names_read : are_read_in special_registers special_registers ≡ true
scr_names_read = refl

-- a control and status register, a special capability register by its name
pub csr_named-csr_name : (n : ℕ) (text : List ℕ) → csr_name n ≡ Some text → csr_named text ≡ Some n
unfolding csr_named csr_name
csr_named-csr_name n text e = read-in csrs csrs n text csr_names_read e

pub scr_named-scr_name : (n : ℕ) (text : List ℕ) → scr_name n ≡ Some text → scr_named text ≡ Some n
unfolding scr_named scr_name
scr_named-scr_name n text e = read-in special_registers special_registers n text scr_names_read e

-- the place of a name lies inside the list
place-below : (text : List ℕ) (names : List (List ℕ)) (n : ℕ) → place_of text names ≡ Some n → n < length names
place-below text names n e = (position-Some (pointwise nat_eq text) names n [] e).0

-- a fact of both of two answers is one of the first of them
or_else-below : (m : ℕ) (a b : Option ℕ) → ((n : ℕ) → a ≡ Some n → n < m) → ((n : ℕ) → b ≡ Some n → n < m) → (n : ℕ) → or_else a b ≡ Some n
    → n < m
or_else-below m (Some k) b f g n e = f n e
or_else-below m None b f g n e = g n e

frame_pointer-below : (text : List ℕ) (n : ℕ) → frame_pointer text ≡ Some n → n < 32
frame_pointer-below text n e = grind (arith, nat_tests)

-- a register's number is below 32
pub register_named-below : (text : List ℕ) (n : ℕ) → register_named text ≡ Some n → n < 32
unfolding register_named
register_named-below text =
    or_else-below 32 _ _ (place-below text integer_names)
    (or_else-below 32 _ _ (place-below text capability_names)
    (or_else-below 32 _ _ (place-below text integer_numbers)
    (or_else-below 32 _ _ (place-below text capability_numbers) (frame_pointer-below text))))

-- each number of a list is below a bound
abbrev are_below : ℕ → List (ℕ × List ℕ) → Bool
are_below m [] = true
are_below m (p ∷ ps) = nat_lt p.0 m && are_below m ps

number_in-below : (m : ℕ) (names : List (ℕ × List ℕ)) (text : List ℕ) (n : ℕ) → are_below m names ≡ true → number_in names text ≡ Some n
    → n < m
number_in-below m [] text n h e = cc
number_in-below m (p ∷ ps) text n h e =
    let here : p.0 < m = grind (arith, nat_tests) in
    let rest : are_below m ps ≡ true = grind (arith, nat_tests) in
    let later = number_in-below m ps text n rest in
    grind (arith, nat_tests, here, later)

-- a control and status register's number is below 4096, a special capability register's below 32
pub csr_named-below : (text : List ℕ) (n : ℕ) → csr_named text ≡ Some n → n < 4096
unfolding csr_named
csr_named-below text n e = number_in-below 4096 csrs text n refl e

pub scr_named-below : (text : List ℕ) (n : ℕ) → scr_named text ≡ Some n → n < 32
unfolding scr_named
scr_named-below text n e = number_in-below 32 special_registers text n refl e
