-- Numbers and expressions as they are written, in whole numbers.
use Rattle.std.specs.Prelude.{ℕ, ◌+◌, ◌^◌, Bool, not, ◌&&◌, ◌||◌, ◌==◌, nat_lt, if◌then◌else◌, ℤ, pos, neg_ℤ, int_lt, List, length, take}
use Rattle.std.specs.Prelude.{drop, slice_index, Option, Some, None, Result, Ok, Err}
use Rattle.std.specs.List.{prefix_len}
use Rattle.std.specs.Char.{digit_value}
use Rattle.std.specs.Str.Parse.{digits_value}
use Rattle.asm_lines.specs.declared.fault.LineFault.{LineFault}
use Rattle.asm_lines.specs.declared.fault.LineFault.TheVariants.{A2, A3}
use Rattle.asm_lines.specs.Text.{trimmed_start, trimmed_end, is_name, begins_name}

-- one digit or more in a radix, and nothing else
abbrev pub is_numeral : ℕ → List ℕ → Bool
is_numeral radix ds = nat_lt 0 (length ds) && (prefix_len (λ d. nat_lt (digit_value d) radix) ds == length ds)

-- what numbers and the values of expressions lie between
abbrev pub is_in_limits : ℤ → Bool
is_in_limits n = not (int_lt n (neg_ℤ (pos (2 ^ 63)))) && int_lt n (pos (2 ^ 64))

abbrev pub limited : ℤ → Result ℤ LineFault
limited n = if is_in_limits n then Ok n else Err A3

-- `0x` and hexadecimal digits, or decimal digits with a minus before them or not
abbrev pub is_hexadecimal : List ℕ → Bool
is_hexadecimal text = (slice_index text 0 == 48) && (slice_index text 1 == 120)

abbrev pub is_negative : List ℕ → Bool
is_negative text = slice_index text 0 == 45

unfoldable pub number_of : List ℕ → Result ℤ LineFault
number_of text =
    if is_hexadecimal text then (if is_numeral 16 (drop 2 text) then limited (pos (digits_value 16 (drop 2 text))) else Err A2)
    else (if is_negative text then (if is_numeral 10 (drop 1 text) then limited (neg_ℤ (pos (digits_value 10 (drop 1 text)))) else Err A2)
    else (if is_numeral 10 text then limited (pos (digits_value 10 text)) else Err A2))

-- a number, or a name with a number added to it
pub record Expression : Type 0 where
  pub name : Option (List ℕ)
  pub offset : ℤ

abbrev pub expression : Option (List ℕ) → ℤ → Expression
expression name offset = record { name = name; offset = offset }

-- where the first plus or minus stands, or the length
abbrev pub is_sign : ℕ → Bool
is_sign b = (b == 43) || (b == 45)

abbrev pub sign_place : List ℕ → ℕ
sign_place text = prefix_len (λ b. not (is_sign b)) text

-- a name with what a number's reading says added
abbrev pub named_plus : List ℕ → Result ℤ LineFault → Result Expression LineFault
named_plus name (Ok n) = Ok (expression (Some name) n)
named_plus name (Err fault) = Err fault

abbrev pub named_minus : List ℕ → Result ℤ LineFault → Result Expression LineFault
named_minus name (Ok n) = Ok (expression (Some name) (neg_ℤ n))
named_minus name (Err fault) = Err fault

abbrev pub numbered : Result ℤ LineFault → Result Expression LineFault
numbered (Ok n) = Ok (expression None n)
numbered (Err fault) = Err fault

-- a name alone, or with a number added or taken away
unfoldable pub named_expression : List ℕ → Result Expression LineFault
named_expression text =
    if not (is_name (trimmed_end (take (sign_place text) text))) then Err A2
    else (if sign_place text == length text then Ok (expression (Some text) (pos 0))
    else (if slice_index text (sign_place text) == 43
    then named_plus (trimmed_end (take (sign_place text) text)) (number_of (trimmed_start (drop (sign_place text + 1) text)))
    else named_minus (trimmed_end (take (sign_place text) text)) (number_of (trimmed_start (drop (sign_place text + 1) text)))))

-- an expression, without white space around it
unfoldable pub expression_of : List ℕ → Result Expression LineFault
expression_of text =
    if nat_lt 0 (length text) && begins_name (slice_index text 0) then named_expression text else numbered (number_of text)
