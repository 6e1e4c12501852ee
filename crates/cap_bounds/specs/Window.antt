-- What any word means (UCAM-CL-TR-987, CHERI Concentrate, representable space): its mantissas and the window that holds
-- its address give its bounds. Addresses are below 2 ^ 64 and go round there.
--
-- For an exponent e of at most 50 the addresses are cut into windows of 2 ^ (e + 14), one of which begins at
-- (b / 2 ^ 11 - 1) * 2 ^ (e + 11). The base is the number congruent to b * 2 ^ e modulo 2 ^ (e + 14) in the window that holds the
-- address. For 51 and 52 there is one window.
use Rattle.std.specs.Prelude.{◌≡◌, ℕ, ◌+◌, ◌-◌, ◌*◌, ◌/◌, ◌%◌, ◌^◌, ◌<◌, ◌≤◌, ◌↔◌, nat_le, if◌then◌else◌}
use Rattle.cap_format.specs.Word.{address_of}
use Rattle.cap_bounds.specs.Mantissa.{exponent_of, base_mantissa, length_mantissa}

-- an eighth of a window
abbrev pub step_of : ℕ → ℕ
step_of e = 2 ^ (e + 11)

-- how far an address lies past the beginning of its window, which is b / 2 ^ 11 - 1 steps past a multiple of eight steps
unfoldable pub place_in_window : ℕ → ℕ → ℕ → ℕ
place_in_window e b address = (address + step_of e + (8 - b / 2 ^ 11) * step_of e) % (8 * step_of e)

-- The base lies one step and the rest of b past the beginning of the address's window.
unfoldable pub decoded_base : ℕ → ℕ → ℕ → ℕ
decoded_base e b address =
    if nat_le e 50 then (address + 2 ^ 64 - place_in_window e b address + step_of e + b % 2 ^ 11 * 2 ^ e) % 2 ^ 64
    else b * 2 ^ e % 2 ^ 64

unfoldable pub decoded_top : ℕ → ℕ → ℕ → ℕ → ℕ
decoded_top e b l address = if nat_le e 50 then decoded_base e b address + l * 2 ^ e else (b + l) * 2 ^ e % 2 ^ 65

-- the base and the top that a word decodes to
unfoldable pub base_of_word : ℕ → ℕ
base_of_word word = decoded_base (exponent_of word) (base_mantissa word) (address_of word)

unfoldable pub top_of_word : ℕ → ℕ
top_of_word word = decoded_top (exponent_of word) (base_mantissa word) (length_mantissa word) (address_of word)

-- x is one of the `length` addresses that begin at `start`
abbrev pub IsFrom : ℕ → ℕ → ℕ → Type 0
IsFrom start length x = (x + 2 ^ 64 - start) % 2 ^ 64 < length

-- `start` is where a window begins
pub record IsWindowStart (e b start : ℕ) : Type 0 where
  pub in_space : start < 2 ^ 64
  pub begins : (start + 2 ^ (e + 11)) % 2 ^ (e + 14) ≡ b / 2 ^ 11 * 2 ^ (e + 11) % 2 ^ (e + 14)

-- the base as the standard has it: congruent to b * 2 ^ e, in the window that holds the address
pub record IsBase (e b address base : ℕ) : Type 0 where
  pub in_space : base < 2 ^ 64
  pub congruent : base % 2 ^ (e + 14) ≡ b * 2 ^ e % 2 ^ (e + 14)
  pub start : ℕ
  pub window : IsWindowStart e b start
  pub holds_address : IsFrom start (2 ^ (e + 14)) address
  pub holds_base : IsFrom start (2 ^ (e + 14)) base

-- The computing form is the relation: one number is such a base, and it is the decoded one.
abbrev pub BaseIsByWindows : Type 0
BaseIsByWindows =
    (e b address base : ℕ) → e ≤ 50 → b < 2 ^ 14 → address < 2 ^ 64
    → IsBase e b address base ↔ (base ≡ decoded_base e b address)

-- any word's base is an address, and its top has 65 bits
abbrev pub DecodedBoundsAreInRange : Type 0
DecodedBoundsAreInRange = (word : ℕ) → (base_of_word word < 2 ^ 64) × (top_of_word word < 2 ^ 65)
