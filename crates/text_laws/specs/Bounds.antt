-- What holds of the numbers that texts on bounds show: of a window's first and last address, and of the length that an allocator reserves.
use Rattle.std.specs.Prelude.{◌≡◌, ℕ, ◌+◌, ◌%◌, ◌^◌, ◌<◌, ◌≤◌, ◌↔◌, IsTrue, nat_le, false}
use Rattle.cap_bounds.specs.Mantissa.{exponent_of}
use Rattle.cap_bounds.specs.Window.{base_of_word}
use Rattle.cap_bounds.specs.Record.{IsWordWellFormed, window_holds}
use Rattle.cap_bounds.specs.Root.{root}
use Rattle.cap_bounds.specs.Rounding.{length_granule, rounded_base, rounded_top, rounding_exponent}
use Rattle.cap_bounds.specs.SetAddress.{KeepsBounds}
use Rattle.cap_bounds.specs.SetBounds.{bounded}
use Rattle.bounds_text.specs.LengthText.{whole_length}
use Rattle.cap_bounds.specs.WindowEnds.{window_last, window_place}

-- The bounds that are set on root stay with an address exactly if it comes no later than their window's last one, both counted from
-- its first.
abbrev pub BoundsStayFromFirstToLast : Type 0
BoundsStayFromFirstToLast =
    (base length address : ℕ) → base < 2 ^ 64 → length < 2 ^ 64 → base + length ≤ 2 ^ 64 → address < 2 ^ 64
    → let e = rounding_exponent base (base + length) in
    let low = rounded_base base (base + length) in
    window_holds (bounded (root base false) length) address
    ≡ nat_le (window_place e low address) (window_place e low (window_last e low))

-- The bounds of a well-formed word stay with an address exactly if it comes no later than their window's last one, both counted from
-- its first.
abbrev pub WordsStayFromFirstToLast : Type 0
WordsStayFromFirstToLast =
    (word address : ℕ) → IsWordWellFormed word → address < 2 ^ 64
    → let e = exponent_of word in
    let base = base_of_word word in
    KeepsBounds word address ↔ IsTrue (nat_le (window_place e base address) (window_place e base (window_last e base)))

-- From each multiple of the granule the bounds of so many bytes are the rounded length, and no byte lies below them.
abbrev pub AlignedBlocksAreExact : Type 0
AlignedBlocksAreExact =
    (base length : ℕ) → base < 2 ^ 64 → length < 2 ^ 64 → base % length_granule length ≡ 0
    → (rounded_base base (base + length) ≡ base) × (rounded_top base (base + length) ≡ base + whole_length length)
