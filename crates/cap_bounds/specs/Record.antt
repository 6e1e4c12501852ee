-- Capability records, and the one word of each (UCAM-CL-TR-987, CHERI Concentrate, encoding).
use Rattle.std.specs.Prelude.{◌≡◌, ℕ, ◌+◌, ◌-◌, ◌*◌, ◌/◌, ◌%◌, ◌^◌, ◌<◌, ◌≤◌, Bool, true, ◌||◌, nat_le, nat_lt, if◌then◌else◌, IsTrue}
use Rattle.base.specs.Bits.{bit}
use Rattle.cap_format.specs.Word.{address_of, perms_of, flag_of, otype_of}
use Rattle.cap_bounds.specs.Least.{least_up_to}
use Rattle.cap_bounds.specs.Mantissa.{greatest_exponent, exponent_of}
use Rattle.cap_bounds.specs.Window.{step_of, base_of_word, top_of_word}

-- a capability without its tag: the bounds are the addresses from base on and below top
pub record Record : Type 0 where
  pub base : ℕ
  pub top : ℕ
  pub address : ℕ
  pub perms : ℕ
  pub flag : Bool
  pub otype : ℕ

abbrev pub record_with : ℕ → ℕ → ℕ → ℕ → Bool → ℕ → Record
record_with base top address perms flag otype =
    record { base = base; top = top; address = address; perms = perms; flag = flag; otype = otype }

-- lengths from 4096 on have an internal exponent
unfoldable pub has_exponent : ℕ → Bool
has_exponent n = nat_le 4096 n

-- the least e for which the length is below 2 ^ (e + 13)
unfoldable pub exponent_for : ℕ → ℕ
exponent_for n = least_up_to greatest_exponent (λ e. nat_lt n (2 ^ (e + 13)))

-- what base and top of a length are multiples of
unfoldable pub alignment_for : ℕ → ℕ
alignment_for n = if has_exponent n then 2 ^ (exponent_for n + 3) else 1

-- The record's window: the 2 ^ (e + 14) addresses that begin 2 ^ (e + 11) below the base rounded down to a multiple of
-- 2 ^ (e + 11), or from e = 50 on every address.
unfoldable pub is_in_window : ℕ → ℕ → ℕ → Bool
is_in_window e base address =
    nat_le 50 e || nat_lt ((address + 2 ^ 64 + step_of e - base / step_of e * step_of e) % 2 ^ 64) (8 * step_of e)

-- the record's bounds stay with this address
abbrev pub window_holds : Record → ℕ → Bool
window_holds r address = is_in_window (exponent_for (r.top - r.base)) r.base address

-- the record has a word
pub record IsWellFormed (r : Record) : Type 0 where
  pub ordered : r.base ≤ r.top
  pub in_space : r.top ≤ 2 ^ 64
  pub base_fits : r.base < 2 ^ 64
  pub address_fits : r.address < 2 ^ 64
  pub perms_fit : r.perms < 2 ^ 16
  pub otype_fits : r.otype < 2 ^ 18
  pub base_aligned : r.base % alignment_for (r.top - r.base) ≡ 0
  pub top_aligned : r.top % alignment_for (r.top - r.base) ≡ 0
  pub in_window : IsTrue (window_holds r r.address)

-- the mantissas of a base and a top at an exponent; an internal exponent stands in their low three bits, its high half in T's
abbrev pub encoded_b : ℕ → ℕ → Bool → ℕ
encoded_b base e ie = if ie then base / 2 ^ e % 2 ^ 14 / 8 * 8 + e % 8 else base / 2 ^ e % 2 ^ 14

abbrev pub encoded_t : ℕ → ℕ → Bool → ℕ
encoded_t top e ie = if ie then top / 2 ^ e % 2 ^ 12 / 8 * 8 + e / 8 else top / 2 ^ e % 2 ^ 12

-- The canonical encoding of a record at an exponent, internal or not. The reserved bits are 0.
unfoldable pub encoded_at : ℕ → Bool → Record → ℕ
encoded_at e ie r =
    r.perms * 2 ^ 112 + bit r.flag * 2 ^ 109 + r.otype * 2 ^ 91 + bit ie * 2 ^ 90 + encoded_t r.top e ie * 2 ^ 78
    + encoded_b r.base e ie * 2 ^ 64 + r.address

-- the canonical word of a record
unfoldable pub encoded : Record → ℕ
encoded r = encoded_at (exponent_for (r.top - r.base)) (has_exponent (r.top - r.base)) r

-- the record that a word decodes to
unfoldable pub decoded : ℕ → Record
decoded word = record {
  base = base_of_word word;
  top = top_of_word word;
  address = address_of word;
  perms = perms_of word;
  flag = flag_of word;
  otype = otype_of word;
}

-- A word that may be tagged: the record that it decodes to is well-formed, and it is that record's canonical word.
pub record IsWordWellFormed (word : ℕ) : Type 0 where
  pub decodes : IsWellFormed (decoded word)
  pub canonical : encoded (decoded word) ≡ word

-- every well-formed record's word means that record again
abbrev pub WordMeansItsRecord : Type 0
WordMeansItsRecord = (r : Record) → IsWellFormed r → decoded (encoded r) ≡ r

-- every well-formed record's word has 128 bits, and may be tagged: decoded and encoded again it is itself
abbrev pub CanonicalWordIsWellFormed : Type 0
CanonicalWordIsWellFormed = (r : Record) → IsWellFormed r → (encoded r < 2 ^ 128) × IsWordWellFormed (encoded r)

-- every word's address lies in the window of its own base, also where the word is malformed
abbrev pub AddressLiesInItsWindow : Type 0
AddressLiesInItsWindow =
    (word : ℕ) → word < 2 ^ 128 → is_in_window (exponent_of word) (base_of_word word) (address_of word) ≡ true
