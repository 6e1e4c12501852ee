-- Setting bounds (UCAM-CL-TR-987, CSetBounds and CSetBoundsExact).
use Rattle.std.specs.Prelude.{◌≡◌, ℕ, ◌+◌, ◌%◌, ◌^◌, ◌≤◌, Bool, ◌&&◌, not, nat_le, if◌then◌else◌}
use Rattle.cap_bounds.specs.Record.{Record, IsWellFormed, record_with, has_exponent, encoded_at}
use Rattle.cap_bounds.specs.CapValue.{CapValue, Cap, Data, is_tagged, is_sealed, value_base, value_top, value_address, value_perms}
use Rattle.cap_bounds.specs.CapValue.{value_flag, value_otype}
use Rattle.cap_bounds.specs.Rounding.{rounding_exponent, rounded_base, rounded_top, is_exact}

-- the end of a request of so many bytes from the value's address, in whole numbers
abbrev pub request_top : CapValue → ℕ → ℕ
request_top v length = value_address v + length

-- the rounded bounds, the top modulo 2 ^ 65, with the value's other fields
unfoldable pub bounded : CapValue → ℕ → Record
bounded v length =
    record_with (rounded_base (value_address v) (request_top v length)) (rounded_top (value_address v) (request_top v length) % 2 ^ 65)
    (value_address v)
    (value_perms v) (value_flag v) (value_otype v)

-- The bounds may be set: the value is an unsealed capability, whose bounds hold the request.
unfoldable pub may_bound : CapValue → ℕ → Bool
may_bound v length =
    is_tagged v && (not (is_sealed v) && (nat_le (value_base v) (value_address v) && nat_le (request_top v length) (value_top v)))

-- A capability where the bounds may be set, else the bits of what it would have been.
unfoldable pub with_bounds : CapValue → ℕ → CapValue
with_bounds v length =
    if may_bound v length then Cap (bounded v length)
    else Data (encoded_at (rounding_exponent (value_address v) (request_top v length)) (has_exponent length) (bounded v length))

-- rounding changes nothing of the request
abbrev pub bounds_exact : CapValue → ℕ → Bool
bounds_exact v length = is_exact (value_address v) (request_top v length)

-- the rounded bounds of a request from v's address, the top modulo 2 ^ 65
abbrev pub HasRoundedBounds : CapValue → ℕ → CapValue → Type 0
HasRoundedBounds v length new =
    (value_base new ≡ rounded_base (value_address v) (request_top v length))
    × (value_top new ≡ rounded_top (value_address v) (request_top v length) % 2 ^ 65)

-- a value's bounds lie in another's
abbrev pub LiesWithin : CapValue → CapValue → Type 0
LiesWithin inner outer = (value_base outer ≤ value_base inner) × (value_top inner ≤ value_top outer)

-- a range in the bounds of a capability is rounded out to one that lies in them too
abbrev pub BoundsStayInsideTheAuthority : Type 0
BoundsStayInsideTheAuthority =
    (r : Record) (base top : ℕ) → IsWellFormed r → base ≤ top → r.base ≤ base → top ≤ r.top
    → (r.base ≤ rounded_base base top) × (rounded_top base top ≤ r.top)
