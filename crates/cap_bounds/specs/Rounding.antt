-- Rounding requested bounds out to what a word can say (UCAM-CL-TR-987, CHERI Concentrate, encoding and rounding).
use Rattle.std.specs.Prelude.{◌≡◌, ℕ, ◌+◌, ◌-◌, ◌*◌, ◌/◌, ◌^◌, ◌<◌, ◌≤◌, Bool, ◌&&◌, ◌==◌, nat_lt, if◌then◌else◌}
use Rattle.cap_bounds.specs.Least.{least_up_to}
use Rattle.cap_bounds.specs.Mantissa.{greatest_exponent}

-- a number of granules that holds so many bytes
abbrev pub granules_up_to : ℕ → ℕ → ℕ
granules_up_to g bytes = (bytes + g - 1) / g

-- how many granules of 2 ^ (e + 3) bytes the addresses from base on and below top touch
abbrev pub granules_spanned : ℕ → ℕ → ℕ → ℕ
granules_spanned e base top = granules_up_to (2 ^ (e + 3)) top - base / 2 ^ (e + 3)

-- the least exponent at which the range touches fewer than 1024 granules
unfoldable pub rounding_exponent : ℕ → ℕ → ℕ
rounding_exponent base top = least_up_to greatest_exponent (λ e. nat_lt (granules_spanned e base top) 1024)

-- a range below 4096 bytes stays as it is, without an exponent; a longer one is rounded out to granules
unfoldable pub rounding_granule : ℕ → ℕ → ℕ
rounding_granule base top = if nat_lt (top - base) 4096 then 1 else 2 ^ (rounding_exponent base top + 3)

-- the base rounded down and the top rounded up
unfoldable pub rounded_base : ℕ → ℕ → ℕ
rounded_base base top = base / rounding_granule base top * rounding_granule base top

unfoldable pub rounded_top : ℕ → ℕ → ℕ
rounded_top base top = granules_up_to (rounding_granule base top) top * rounding_granule base top

-- rounding changes nothing
unfoldable pub is_exact : ℕ → ℕ → Bool
is_exact base top = (rounded_base base top == base) && (rounded_top base top == top)

-- what the base and the length of a capability of this length from an aligned base are multiples of
abbrev pub length_granule : ℕ → ℕ
length_granule length = rounding_granule 0 length

-- the least exponent at which a range touches fewer than 1024 granules
pub record IsLeastExponent (base top e : ℕ) : Type 0 where
  pub high : e ≤ greatest_exponent
  pub few : granules_spanned e base top < 1024
  pub least : (smaller : ℕ) → smaller < e → 1024 ≤ granules_spanned smaller base top

-- every request of 4096 bytes or more is rounded out to the least granules that serve
abbrev pub RoundingTakesTheLeastGranule : Type 0
RoundingTakesTheLeastGranule =
    (base length : ℕ) → base < 2 ^ 64 → length < 2 ^ 64 → 4096 ≤ length
    → IsLeastExponent base (base + length) (rounding_exponent base (base + length))
    × (rounding_granule base (base + length) ≡ 2 ^ (rounding_exponent base (base + length) + 3))
