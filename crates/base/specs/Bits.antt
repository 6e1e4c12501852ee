-- Bits of numbers.
use Rattle.std.specs.Prelude.{ℕ, ◌/◌, ◌%◌, ◌^◌, Bool, if◌then◌else◌}

-- bits k to k + m - 1 of a word
abbrev pub field : ℕ → ℕ → ℕ → ℕ
field word k m = word / 2 ^ k % 2 ^ m

-- a truth value as a number
abbrev pub bit : Bool → ℕ
bit b = if b then 1 else 0
