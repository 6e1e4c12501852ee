-- The window of bounds by its first and its last address (UCAM-CL-TR-987, CHERI Concentrate, representable space).
use Rattle.std.specs.Prelude.{ℕ, ◌+◌, ◌-◌, ◌*◌, ◌/◌, ◌%◌, ◌^◌, nat_le, if◌then◌else◌}
use Rattle.cap_bounds.specs.Window.{step_of}

-- how many addresses the window of an exponent has: eight steps, or from e = 50 on all that there are
unfoldable pub window_size : ℕ → ℕ
window_size e = if nat_le 50 e then 2 ^ 64 else 8 * step_of e

-- its first address, a step below the base rounded down to a multiple of a step; addresses go round at 2 ^ 64, and of all of them 0 is it
unfoldable pub window_first : ℕ → ℕ → ℕ
window_first e base = if nat_le 50 e then 0 else (base / step_of e * step_of e + 2 ^ 64 - step_of e) % 2 ^ 64

unfoldable pub window_last : ℕ → ℕ → ℕ
window_last e base = (window_first e base + window_size e - 1) % 2 ^ 64

-- how far an address lies past the window's first one, going round
unfoldable pub window_place : ℕ → ℕ → ℕ → ℕ
window_place e base address = (address + 2 ^ 64 - window_first e base) % 2 ^ 64
