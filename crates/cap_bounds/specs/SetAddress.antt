-- Setting an address (UCAM-CL-TR-987, CSetAddr), with the exact test of representability (profile).
use Rattle.std.specs.Prelude.{◌≡◌, ℕ, ◌^◌, ◌<◌, ◌≤◌, ◌↔◌, ◌&&◌, not, if◌then◌else◌, IsTrue}
use Rattle.cap_format.specs.Word.{with_address_of}
use Rattle.cap_bounds.specs.Window.{base_of_word, top_of_word}
use Rattle.cap_bounds.specs.Record.{Record, IsWellFormed, encoded, window_holds}
use Rattle.cap_bounds.specs.CapValue.{CapValue, Cap, Data, is_sealed, word_of}

-- the value's bits with another address
abbrev pub data_at : CapValue → ℕ → CapValue
data_at v address = Data (with_address_of (word_of v) address)

-- An unsealed capability whose window holds the new address keeps all else. Any other value becomes data: its bits with the
-- address replaced.
unfoldable pub at_address : CapValue → ℕ → CapValue
at_address (Cap r) address =
    if not (is_sealed (Cap r)) && window_holds r address then Cap (record r { address = address }) else data_at (Cap r) address
at_address (Data n) address = data_at (Data n) address

-- A capability's bounds, decoded from its word with another address, stay exactly while the address is in its window.
abbrev pub BoundsStayInTheWindow : Type 0
BoundsStayInTheWindow =
    (r : Record) (address : ℕ) → IsWellFormed r → address < 2 ^ 64
    → IsTrue (window_holds r address)
    ↔ ((base_of_word (with_address_of (encoded r) address) ≡ r.base) × (top_of_word (with_address_of (encoded r) address) ≡ r.top))

-- Every address in a capability's bounds, and its top, lies in its window: with one of them as the address its bounds stay.
abbrev pub BoundsLieInTheWindow : Type 0
BoundsLieInTheWindow =
    (r : Record) (address : ℕ) → IsWellFormed r → address < 2 ^ 64 → r.base ≤ address → address ≤ r.top → IsTrue (window_holds r address)

-- a word's bounds stay with this address in place of its own
abbrev pub KeepsBounds : ℕ → ℕ → Type 0
KeepsBounds word address =
    (base_of_word (with_address_of word address) ≡ base_of_word word) × (top_of_word (with_address_of word address) ≡ top_of_word word)
