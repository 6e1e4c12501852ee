-- Numbers of 64 bits give numbers of 64 bits.
use Rattle.std.proofs.Common.{ℕ, ◌-◌, ◌*◌, ◌/◌, ◌%◌, ◌^◌, ◌<◌, ◌≤◌, Bool, true, false, cond, eqb, arith, lit<, lit≤}
use Rattle.std.specs.Prelude.{ℤ, pos, negsuc, int_div, int_rem, bit_and, bit_or, bit_xor}
use Rattle.std.proofs.Math.Nat.{div-le_self, mod-le}
use Rattle.std.proofs.lemmas.Nat.{and_le_l, or_lt, xor_lt, mul-lt, mod_below, pow_pos}
use Rattle.std.proofs.lemmas.Bool.{cond_both}
use Rattle.isa_rows.specs.declared.rows.Row.{Row}
use Rattle.isa_rows.specs.declared.rows.Row.TheVariants.{Lui, Mul}
use Rattle.isa_rows.specs.OperandLaws.{sign_extended-below}
use Rattle.base.specs.Bits.{bit}
use Rattle.alu.specs.Integer.{signed, wrapped, word, signed_word, extended, int_result, overflows, overflows_word, quotient}
use Rattle.alu.specs.Integer.{quotient_word, remainder, remainder_word, mul_div_result}

abbrev Fits : ℕ → Type 0
Fits n = n < 2 ^ 64

zero-fits : Fits 0
zero-fits = lit< tt

wrapped-fits : (z : ℤ) → Fits (wrapped z)
wrapped-fits (pos n) = mod_below n (2 ^ 64) (pow_pos 64)
wrapped-fits (negsuc n) = omega arith

extended-fits : (n : ℕ) → Fits (extended n)
extended-fits n = sign_extended-below 32 (word n) (lit≤ tt) (mod_below n (2 ^ 32) (pow_pos 32))

bit-fits : (b : Bool) → Fits (bit b)
bit-fits true = lit< tt
bit-fits false = lit< tt

modulo-fits : (n : ℕ) → Fits (n % 2 ^ 64)
modulo-fits n = mod_below n (2 ^ 64) (pow_pos 64)

div-fits : (n k : ℕ) → Fits n → Fits (n / k)
div-fits n k fits = let low : n / k ≤ n = div-le_self n k in omega arith

mod-fits : (n k : ℕ) → Fits n → Fits (n % k)
mod-fits n k fits = let low : n % k ≤ n = mod-le n k in omega arith

and-fits : (a b : ℕ) → Fits a → Fits (bit_and a b)
and-fits a b fits = let low = and_le_l a b in omega arith

high-fits : (a b : ℕ) → Fits a → Fits b → Fits (a * b / 2 ^ 64)
high-fits a b left right = let small = mul-lt a b (2 ^ 64) (2 ^ 64) left right in omega arith

xor-fits : (a b : ℕ) → Fits a → Fits b → Fits (bit_xor a b)
xor-fits a b left right = xor_lt 64 a b left right

or-fits : (a b : ℕ) → Fits a → Fits b → Fits (bit_or a b)
or-fits a b left right = or_lt 64 a b left right

-- ---- RV64I

-- each row's result fits by one of these
ruleset results = (
  zero-fits,
  wrapped-fits,
  extended-fits,
  bit-fits,
  modulo-fits,
  div-fits,
  mod-fits,
  and-fits,
  xor-fits,
  or-fits,
)

pub int_result-below : (row : Row) (a b : ℕ) → a < 2 ^ 64 → b < 2 ^ 64 → int_result row a b < 2 ^ 64
unfolding int_result
int_result-below Lui a b left right = right
int_result-below _ a b left right = search results

-- ---- M

ones-fit : Fits (2 ^ 64 - 1)
ones-fit = lit< tt

quotient-fits : (a b : ℕ) → Fits a → Fits (quotient a b)
unfolding quotient
quotient-fits a b fits =
    cond_both (eqb b 0) _ _ Fits (λ _. ones-fit)
    (λ _. cond_both (overflows a b) a (wrapped (int_div (signed a) (signed b))) Fits (λ _. fits)
    (λ _. wrapped-fits (int_div (signed a) (signed b))))

quotient_word-fits : (a b : ℕ) → Fits (quotient_word a b)
unfolding quotient_word
quotient_word-fits a b =
    cond_both (eqb (word b) 0) _ _ Fits (λ _. ones-fit)
    (λ _. cond_both (overflows_word a b) (extended a) (wrapped (int_div (signed_word a) (signed_word b))) Fits (λ _. extended-fits a)
    (λ _. wrapped-fits (int_div (signed_word a) (signed_word b))))

remainder-fits : (a b : ℕ) → Fits a → Fits (remainder a b)
unfolding remainder
remainder-fits a b fits =
    cond_both (eqb b 0) a _ Fits (λ _. fits)
    (λ _. cond_both (overflows a b) 0 (wrapped (int_rem (signed a) (signed b))) Fits (λ _. zero-fits)
    (λ _. wrapped-fits (int_rem (signed a) (signed b))))

remainder_word-fits : (a b : ℕ) → Fits (remainder_word a b)
unfolding remainder_word
remainder_word-fits a b =
    cond_both (eqb (word b) 0) (extended a) _ Fits (λ _. extended-fits a)
    (λ _. cond_both (overflows_word a b) 0 (wrapped (int_rem (signed_word a) (signed_word b))) Fits (λ _. zero-fits)
    (λ _. wrapped-fits (int_rem (signed_word a) (signed_word b))))

one_of-fits : (b : Bool) (m n : ℕ) → Fits m → Fits n → Fits (cond b m n)
one_of-fits true m n first second = first
one_of-fits false m n first second = second

ruleset quotients = (ones-fit, high-fits, quotient-fits, quotient_word-fits, remainder-fits, remainder_word-fits, one_of-fits)

pub mul_div_result-below : (row : Row) (a b : ℕ) → a < 2 ^ 64 → b < 2 ^ 64 → mul_div_result row a b < 2 ^ 64
unfolding mul_div_result
mul_div_result-below Mul a b left right = modulo-fits (a * b)
mul_div_result-below _ a b left right = search (results, quotients)
