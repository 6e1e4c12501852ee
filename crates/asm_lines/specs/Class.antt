-- Which bytes a kind of byte holds.
use Rattle.std.specs.Prelude.{ℕ, Bool, not, ◌==◌, nat_lt}
use Rattle.std.specs.Char.{digit_value}
use Rattle.asm_lines.specs.declared.class.Class.{Class}
use Rattle.asm_lines.specs.declared.class.Class.TheVariants.{Blank, Solid, Plain, Name, Unsigned, Not, Digit, Ascii}
use Rattle.asm_lines.specs.Text.{is_blank, is_foreign, continues_name}
use Rattle.asm_lines.specs.Number.{is_sign}

abbrev pub is_in : Class → ℕ → Bool
is_in Blank = λ b. is_blank b
is_in Solid = λ b. not (is_blank b)
is_in Plain = λ b. not (is_foreign b)
is_in Name = λ b. continues_name b
is_in Unsigned = λ b. not (is_sign b)
is_in (Not other) = λ b. not (b == other)
is_in (Digit radix) = λ b. nat_lt (digit_value b) radix
is_in Ascii = λ b. nat_lt b 128
