-- Addresses of commands: numbers and labels.
use Rattle.std.proofs.Common.{◌≡◌, ℕ, suc, Bool, true, false, ◌&&◌, List, [], ◌∷◌, Option, Some, None, refl, arith, length}
use Rattle.std.specs.Prelude.{◌==◌, nat_lt, Err}
use Rattle.std.specs.Char.{digit_value}
use Rattle.std.specs.Option.{option_or}
use Rattle.std.proofs.lemmas.Bool.Decides.{nat_tests}
use Rattle.asm_lines.specs.declared.fault.LineFault.TheVariants.{A2}
use Rattle.asm_lines.specs.Text.{begins_name, is_name}
use Rattle.asm_lines.specs.Number.{number_of}
use Rattle.symbols.specs.Symbols.{Symbol, address_in, address_of, is_label}

pub or_none : (n : Option ℕ) → option_or n None ≡ n
or_none None = refl
or_none (Some n) = refl

-- what begins a name begins no number
no_digit : (b : ℕ) → begins_name b ≡ true → nat_lt (digit_value b) 10 ≡ false
no_digit b h = grind (arith, nat_tests)

no_zero : (b : ℕ) → begins_name b ≡ true → (b == 48) ≡ false
no_zero b h = grind (arith, nat_tests)

no_minus : (b : ℕ) → begins_name b ≡ true → (b == 45) ≡ false
no_minus b h = grind (arith, nat_tests)

not_none : (n : ℕ) → (0 == suc n) ≡ false
not_none n = grind (arith, nat_tests)

is_some : (n : ℕ) → nat_lt 0 (suc n) ≡ true
is_some n = grind (arith, nat_tests)

and_left : (a b : Bool) → (a && b) ≡ true → a ≡ true
and_left true b h = refl
and_left false b h = h

is_no_number : (b : ℕ) (bs : List ℕ) → begins_name b ≡ true → number_of (b ∷ bs) ≡ Err A2
unfolding number_of
is_no_number b bs h =
    let digit = no_digit b h in
    let zero = no_zero b h in
    let minus = no_minus b h in
    let none = not_none (length bs) in
    let some = is_some (length bs) in
    rw (zero, minus, digit, none, some) refl

-- the text of a label is no number
name_is_no_number : (text : List ℕ) → is_name text ≡ true → number_of text ≡ Err A2
name_is_no_number [] h = cc
name_is_no_number (b ∷ bs) h = is_no_number b bs (and_left (begins_name b) _ h)

label_is_no_number : (text : List ℕ) → is_label text ≡ true → number_of text ≡ Err A2
unfolding is_label
label_is_no_number text h = name_is_no_number text (and_left (is_name text) _ h)

pub label_is_read : (symbols : List Symbol) (text : List ℕ) → is_label text ≡ true → address_in symbols text ≡ address_of symbols text
label_is_read symbols text h = rw (label_is_no_number text h) refl
