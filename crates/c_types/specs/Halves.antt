-- Numbers of more than 64 bits cross in two halves.
use Rattle.std.specs.Prelude.{ℕ, ◌+◌, ◌*◌, ◌^◌}

-- the number of its halves
abbrev pub joined : ℕ → ℕ → ℕ
joined high low = high * 2 ^ 64 + low
